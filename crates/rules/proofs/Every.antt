-- Laws of what holds of each record of a list: of a member, under a weaker condition, of two conditions, and of lists put together.
-- Assumes nothing.
use mathlib.Core.Path.{sym, subst}
use mathlib.Core.List.{List, [], ◌∷◌, ◌++◌, Memᴰ}
use Rattle.rules.specs.Record.{Outgoing, Every}

pub every_map : {P Q : Outgoing → Type 0} (rs : List Outgoing) → ((r : Outgoing) → P r → Q r) → Every P rs → Every Q rs
every_map [] weaker h = tt
every_map (r ∷ rs) weaker h = (weaker r h.0, every_map rs weaker h.1)

module _ (P : Outgoing → Type 0) where
  pub every_member : {r : Outgoing} {rs : List Outgoing} → Every P rs → Memᴰ r rs → P r
  every_member h (Memᴰ.head e) = subst P (sym e) h.0
  every_member h (Memᴰ.tail m) = every_member h.1 m

  pub every_append : (rs ts : List Outgoing) → Every P rs → Every P ts → Every P (rs ++ ts)
  every_append [] ts h g = g
  every_append (r ∷ rs) ts h g = (h.0, every_append rs ts h.1 g)

pub every_both : (P Q : Outgoing → Type 0) (rs : List Outgoing) → Every P rs → Every Q rs → Every (λ r. P r × Q r) rs
every_both P Q [] h g = tt
every_both P Q (r ∷ rs) h g = ((h.0, g.0), every_both P Q rs h.1 g.1)
