-- The numbers of this layer (02, A1), a number for each refusal, and for each way a pack stands. Number 0 is success.
use Rattle.std.specs.Prelude.{ℕ, Result, Ok, Err}
use Rattle.packs.specs.declared.answer.Licence.{Licence}
use Rattle.packs.specs.declared.answer.Licence.TheVariants.{NotLicensed, NotInForce, InForce}
use Rattle.packs.specs.declared.answer.Refusal.{Refusal}
use Rattle.packs.specs.declared.answer.Refusal.TheVariants.{Layout, Pack, Ticks, Room, Image, Passive}

abbrev pub number_of : Refusal → ℕ
number_of Layout = 14
number_of Pack = 15
number_of Ticks = 16
number_of Room = 7
number_of Image = 8
number_of Passive = 12

-- the number of an answer, whatever comes with success
abbrev pub verdict_of : {T : Type 0} → Result T Refusal → ℕ
verdict_of (Ok _) = 0
verdict_of (Err why) = number_of why

-- how a pack stands: not on the sheet; on the sheet, but not at this tick; in force
abbrev pub not_licensed : ℕ
not_licensed = 0

abbrev pub not_in_force : ℕ
not_in_force = 1

abbrev pub in_force : ℕ
in_force = 2

abbrev pub licence_of : Licence → ℕ
licence_of NotLicensed = not_licensed
licence_of NotInForce = not_in_force
licence_of InForce = in_force
