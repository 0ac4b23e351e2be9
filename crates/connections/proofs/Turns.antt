-- Lists of what came of connections, with one more, and from one list to the next.
use Rattle.std.proofs.Common.{◌≡◌, List, [], ◌∷◌, ◌++◌, length, refl, ap, subst, arith}
use Rattle.connections.specs.declared.outcome.Outcome.{Outcome}
use Rattle.connections.specs.declared.outcome.Outcome.TheVariants.{Over, Refused, NotStarted}
use Rattle.connections.specs.Outcomes.{InTurn, places_of}
use Rattle.connections.specs.Starting.{Each}

-- one connection more is taken
pub turn_more : {A R W O : Type 0} (takes : A → R → W → A → Type 0) (came : R → W → O → Type 0) (a mid b : A) (os : List O) (o : O)
    → InTurn takes came a os mid → (r : R) × (w : W) × takes mid r w b × came r w o → InTurn takes came a (os ++ o ∷ []) b
turn_more takes came a mid b [] o h t = (t.0, t.1, b, subst (λ s. takes s t.0 t.1 b) h t.2, t.3, refl)
turn_more takes came a mid b (x ∷ xs) o h t = (h.0, h.1, h.2, h.3, h.4, turn_more takes came h.2 mid b xs o h.5 t)

-- one pair more
pub each_more : {T O : Type 0} (is : T → O → Type 0) (ts : List T) (os : List O) (t : T) (o : O) → Each is ts os → is t o → Each is (ts ++ t ∷ []) (os ++ o ∷ [])
each_more is [] [] t o h one = (one, tt)
each_more is [] (x ∷ xs) t o h one = absurd h
each_more is (y ∷ ys) [] t o h one = absurd h
each_more is (y ∷ ys) (x ∷ xs) t o h one = (h.0, each_more is ys xs t o h.1 one)

pub each_long : {T O : Type 0} (is : T → O → Type 0) (ts : List T) (os : List O) → Each is ts os → length os ≡ length ts
each_long is [] [] h = refl
each_long is [] (x ∷ xs) h = absurd h
each_long is (y ∷ ys) [] h = absurd h
each_long is (y ∷ ys) (x ∷ xs) h = let l = each_long is ys xs h.1 in omega (arith, l)

-- what came of each, by what was done with it
pub turn_joined : {A R W T O : Type 0} (takes : A → R → W → A → Type 0) (taken : R → W → T → Type 0) (came : R → W → O → Type 0) (is : T → O → Type 0)
    → ((r : R) (w : W) (t : T) (o : O) → taken r w t → is t o → came r w o)
    → (a b : A) (ts : List T) (os : List O) → InTurn takes taken a ts b → Each is ts os → InTurn takes came a os b
turn_joined takes taken came is step a b [] [] h e = h
turn_joined takes taken came is step a b [] (x ∷ xs) h e = absurd e
turn_joined takes taken came is step a b (y ∷ ys) [] h e = absurd e
turn_joined takes taken came is step a b (y ∷ ys) (x ∷ xs) h e =
    (h.0, h.1, h.2, h.3, step h.0 h.1 y x h.4 e.0, turn_joined takes taken came is step h.2 b ys xs h.5 e.1)

pub places-append : {P : Type 0} (os : List (Outcome P)) (o : Outcome P) → places_of (os ++ o ∷ []) ≡ places_of os ++ places_of (o ∷ [])
places-append [] o = refl
places-append (Over over ∷ os) o = ap (λ ps. over.place ∷ ps) (places-append os o)
places-append (Refused fault ∷ os) o = places-append os o
places-append (NotStarted ∷ os) o = places-append os o
