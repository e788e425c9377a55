-- What becomes of an image: accepted with its counts, or refused with number, record and open group.
use Rattle.std.specs.Prelude.{◌≡◌, ℕ, ◌+◌, ◌*◌, ◌<◌, ◌≤◌, true, false, List, [], length, take, Some, None, Option}
use Rattle.battery.specs.Tree.{at, Card}
use Rattle.table.specs.declared.token.Token.{Token}
use Rattle.image.specs.declared.record.Record.{Record}
use Rattle.image.specs.declared.header.ImageFault.{ImageFault}
use Rattle.image.specs.declared.header.ImageFault.TheVariants.{Short, Letters, Version, Range, Length}
use Rattle.image.specs.Bytes.{field16, count_of, text_of, records_of, text_bytes}
use Rattle.image.specs.Header.{lettered, header_fault}
use Rattle.table.specs.Naming.{token_of, unknown, tokens_of}
use Rattle.grammar.specs.Grammar.{Spelt, card_of, misplaced, Misplaced}
use Rattle.numbering.specs.Numbering.{none_seen, numbered, misnumbered, seen_in}
use Rattle.verdict.specs.Order.{Checked, has, fault, check_card}
use Rattle.verdict.specs.Breaks.{BreaksCard}
use Rattle.battery.specs.Typing.{TypedCard}

-- accepted, with the counts of ENUMs and DEFs; or refused, with number, record and open group
pub data Verdict : Type 0 where
  accepted : ℕ → ℕ → Verdict
  refused : ℕ → Option ℕ → Option ℕ → Verdict

-- last, the types: 10 to 13 at the first record, in typing order, whose rule is broken
abbrev pub by_types : Card → Checked (Unit {0}) → Verdict
by_types C (has u) = accepted (length C.enums) (length C.fns)
by_types C (fault n p) = refused n (Some p) None

-- before it the numbering: 9 at the lowest record
abbrev pub by_numbers : Card → Option ℕ → Verdict
by_numbers C (Some p) = refused 9 (Some p) None
by_numbers C None = by_types C (check_card C)

-- before it the order: 8 at the first record that cannot follow, with the group open there
abbrev pub by_place : Option (ℕ × Option ℕ) → Verdict
by_place None = refused 8 None None
by_place (Some x) = refused 8 (Some x.0) x.1

abbrev pub by_grammar : ℕ → List Token → Option Card → Verdict
by_grammar t ws (Some C) = by_numbers C (misnumbered C t 0 none_seen ws)
by_grammar t ws None = by_place (misplaced 0 [] ws)

-- before it the table: 7 at the lowest record
abbrev pub by_table : List ℕ → Option (List Token) → Verdict
by_table image (Some ws) = by_grammar (text_of image) ws (card_of (text_bytes image) ws)
by_table image None = refused 7 (unknown 0 (records_of image)) None

-- and first the header: 2 to 6
abbrev pub image_number : ImageFault → ℕ
image_number Short = 2
image_number Letters = 3
image_number Version = 4
image_number Range = 5
image_number Length = 6

abbrev pub by_header : List ℕ → Option ImageFault → Verdict
by_header image (Some f) = refused (image_number f) None None
by_header image None = by_table image (tokens_of (records_of image))

abbrev pub verdict : List ℕ → Verdict
verdict image = by_header image (header_fault image)

-- n and t are within their ranges
pub record Ranges (image : List ℕ) : Type 0 where
  pub records_from : 1 ≤ count_of image
  pub records_to : count_of image ≤ 512
  pub texts_to : text_of image ≤ 2048

abbrev pub Whole : List ℕ → Type 0
Whole image = length image ≡ 9 + 8 * count_of image + text_of image

-- the header's tests all pass
pub record Header (image : List ℕ) : Type 0 where
  pub long : 9 ≤ length image
  pub letters : lettered image ≡ true
  pub version : field16 image 3 ≡ 1
  pub ranges : Ranges image
  pub whole : Whole image

-- the bytes have the form of the card
pub record Form (image : List ℕ) (C : Card) : Type 0 where
  pub header : Header image
  pub tokens : List Token
  pub known : tokens_of (records_of image) ≡ Some tokens
  pub spelt : Spelt (text_bytes image) tokens C
  pub in_order : misnumbered C (text_of image) 0 none_seen tokens ≡ None

-- the bytes spell a card in form, every function of which has its declared type
pub record Accepted (image : List ℕ) (m n : ℕ) : Type 0 where
  pub card : Card
  pub form : Form image card
  pub typed : TypedCard card
  pub enums : length card.enums ≡ m
  pub functions : length card.fns ≡ n

-- the lowest place of its sort
pub record Lowest (Bad : ℕ → Type 0) (p : ℕ) : Type 0 where
  pub is_bad : Bad p
  pub none_before : (i : ℕ) → i < p → ¬ Bad i

abbrev pub Unknown : List Record → ℕ → Type 0
Unknown rs i = (r : Record) × (at rs i ≡ Some r) × (token_of r ≡ None)

abbrev pub Misnumbered : Card → ℕ → List Token → ℕ → Type 0
Misnumbered C t ws i = (w : Token) × (at ws i ≡ Some w) × (numbered C t (seen_in none_seen (take i ws)) w ≡ false)

-- why an image is turned down: number, record and open group
pub data Refusal (image : List ℕ) : ℕ → Option ℕ → Option ℕ → Type 0 where
  too_short : length image < 9 → Refusal image 2 None None
  wrong_letters : 9 ≤ length image → lettered image ≡ false → Refusal image 3 None None
  wrong_version : 9 ≤ length image → lettered image ≡ true → ¬ (field16 image 3 ≡ 1) → Refusal image 4 None None
  out_of_range : 9 ≤ length image → lettered image ≡ true → field16 image 3 ≡ 1 → ¬ Ranges image → Refusal image 5 None None
  wrong_length : 9 ≤ length image → lettered image ≡ true → field16 image 3 ≡ 1 → Ranges image → ¬ Whole image → Refusal image 6 None None
  not_in_table : {p : ℕ} → Header image → Lowest (Unknown (records_of image)) p → Refusal image 7 (Some p) None
  cannot_follow : {ws : List Token} {r : ℕ} {g : Option ℕ} → Header image → tokens_of (records_of image) ≡ Some ws → Misplaced (text_bytes image) ws r g → Refusal image 8 (Some r) g
  wrong_number : {ws : List Token} {C : Card} {p : ℕ}
      → Header image → tokens_of (records_of image) ≡ Some ws → Spelt (text_bytes image) ws C → Lowest (Misnumbered C (text_of image) ws) p → Refusal image 9 (Some p) None
  wrong_typing : {C : Card} {n p : ℕ} → Form image C → BreaksCard C n p → Refusal image n (Some p) None
