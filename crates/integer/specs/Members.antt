-- Membership in a list, written `a ∈ l`.
use mathlib.Core.List.{List, Memᴰ}

infix 4 ◌∈◌
abbrev pub ◌∈◌ : {A : Type 0} → A → List A → Type 0
a ∈ l = Memᴰ a l
