-- The line that tells a verdict: `ok ENUMS FUNCTIONS`, or `no NUMBER RECORD GROUP` with `-` for none.
use Rattle.std.specs.Prelude.{ℕ, List, ◌++◌, Some, None, codes, decimal, Option}
use Rattle.verdict.specs.Verdict.{Verdict, accepted, refused}

abbrev pub or_dash : Option ℕ → List ℕ
or_dash None = codes "-"
or_dash (Some n) = decimal n

abbrev pub counts_of : ℕ → ℕ → List ℕ
counts_of m n = decimal m ++ (codes " " ++ decimal n)

abbrev pub reason_of : ℕ → Option ℕ → Option ℕ → List ℕ
reason_of n r g = decimal n ++ (codes " " ++ (or_dash r ++ (codes " " ++ or_dash g)))

abbrev pub line_of : Verdict → List ℕ
line_of (accepted m n) = codes "ok " ++ counts_of m n
line_of (refused n r g) = codes "no " ++ reason_of n r g
