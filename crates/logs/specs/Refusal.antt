-- The numbers of the refusals (01, "Numbers given back").
use Rattle.std.specs.Prelude.{ℕ}
use Rattle.logs.specs.declared.refusal.Refusal.{Refusal}
use Rattle.logs.specs.declared.refusal.Refusal.TheVariants.{Layout, Room}

abbrev pub number_of : Refusal → ℕ
number_of Layout = 13
number_of Room = 7
