-- The worked card and its two cuts, computed from their bytes.
use Rattle.std.proofs.Common.{◌≡◌, length, refl}
use Rattle.table.specs.Kinds.{kind_at}
use Rattle.verdict.specs.Cases.{image_K, KAccepted, KWithout4, KWithout16}

long : length image_K ≡ 145
long = refl

pub k_accepted : KAccepted
unfolding kind_at
k_accepted = refl

pub k_without_4 : KWithout4
unfolding kind_at
k_without_4 = refl

pub k_without_16 : KWithout16
unfolding kind_at
k_without_16 = refl
