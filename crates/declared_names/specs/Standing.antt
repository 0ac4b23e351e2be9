-- How what names mean is found: one name after the other, until no definition says more. What is learned is a table of any kind: whether
-- it knows a name, that it is reached (what it says is what the names mean), and that a name is settled (its definition says no more).
use Rattle.std.specs.Prelude.{◌≡◌, ℕ, ◌+◌, ◌<◌, List, [], ◌∷◌, length, Bool, true, false, Some, if◌then◌else◌, slice_get}
use Rattle.values.specs.Values.{Name}
use Rattle.values.specs.Worths.{Worth, Known}
use Rattle.values.specs.Names.{Entry, next_known}

-- how many names the table doesn't know
unfoldable pub lacking : {T : Type 0} → (T → Name → Bool) → List Entry → T → ℕ
lacking knows [] f = 0
lacking knows (e ∷ es) f = (if knows f e.0 then 0 else 1) + lacking knows es f

-- what the first knows, the second knows too
abbrev pub Keeps : {T : Type 0} → (T → Name → Bool) → T → T → Type 0
Keeps knows f g = (n : Name) → knows f n ≡ true → knows g n ≡ true

-- A look at the definition of a name: the second table has what it says, or it is the first one, to which the definition adds nothing.
abbrev pub Learns : {T : Type 0} → (T → Name → Bool) → (T → Type 0) → (T → Name → Type 0) → T → T → Bool → Name → Type 0
Learns knows Reached Settled f g true n = Reached g × Keeps knows f g × (knows f n ≡ false) × (knows g n ≡ true)
Learns knows Reached Settled f g false n = (g ≡ f) × Settled f n

-- the first names, so many, are settled
abbrev pub SettlesFirst : {T : Type 0} → (T → Name → Type 0) → List Entry → T → ℕ → Type 0
SettlesFirst Settled es f i = (j : ℕ) (e : Entry) → j < i → slice_get es j ≡ Some e → Settled f e.0

-- a look at the first names, so many
abbrev pub LearnsFirst : {T : Type 0} → (T → Name → Bool) → (T → Type 0) → (T → Name → Type 0) → List Entry → T → T → Bool → ℕ → Type 0
LearnsFirst knows Reached Settled es f g true i = Reached g × (lacking knows es g < lacking knows es f)
LearnsFirst knows Reached Settled es f g false i = (g ≡ f) × SettlesFirst Settled es f i

-- a look at all names
abbrev pub LearnsAll : {T : Type 0} → (T → Name → Bool) → (T → Type 0) → (T → Name → Type 0) → List Entry → T → T → Bool → Type 0
LearnsAll knows Reached Settled es f g b = LearnsFirst knows Reached Settled es f g b (length es)

-- the table is reached, and all names are settled
abbrev pub Knows : {T : Type 0} → (T → Type 0) → (T → Name → Type 0) → List Entry → T → Type 0
Knows Reached Settled es f = Reached f × SettlesFirst Settled es f (length es)

-- ---- values

-- the definition of this name says no more than the table does
abbrev pub IsSettled : List Entry → Known → Name → Type 0
IsSettled es f n = (w : Worth) → next_known es f n ≡ Some w → f n ≡ Some w
