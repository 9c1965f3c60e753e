-- What a keeper goes on with.
use Rattle.std.specs.Prelude.{Some, None, Option}

-- what is revealed, or else what it has
abbrev pub goes_on : {A : Type 0} → (revealed mine : Option A) → Option A
goes_on None mine = mine
goes_on (Some x) mine = Some x
