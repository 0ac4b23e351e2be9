-- Sets of events, joined and renamed.
use Rattle.std.proofs.Common.{◌≡◌, ◌↔◌, IsTrue, ℕ, Bool, true, false, not, ◌&&◌, ◌||◌, List, [], ◌∷◌, ◌++◌, nat_eq, refl, sym, ap, ◌∙◌}
use Rattle.alphabet.specs.declared.events.Event.{Event}
use Rattle.alphabet.specs.declared.events.Event.TheVariants.{Tick as tick, Of as ev}
use Rattle.term.proofs.Bools.{not-both}
use Rattle.term.specs.Traces.{Pairs, partners}
use Rattle.targets.specs.Targets.{where_, is_empty, origins, sources}
use Rattle.targets.specs.Offers.{some_passes, both_or_one}

pub joined-says : (s l r : Bool) → (((l || r) && not s) || ((l && not (l && not r)) && not ((l && not (l && not r)) && not s))) ≡ both_or_one s l r
joined-says true true true = refl
joined-says true true false = refl
joined-says true false true = refl
joined-says true false false = refl
joined-says false true true = refl
joined-says false true false = refl
joined-says false false true = refl
joined-says false false false = refl

-- what is in both sets, by what is left of one without the other
pub shared-true : (o h : Bool) → o ≡ true → h ≡ true → (o && not (o && not h)) ≡ true
shared-true true true e f = refl
shared-true true false e f = absurd (cc)
shared-true false h e f = absurd (cc)

pub shared-false : (o h : Bool) → (h ≡ true → o ≡ true → ⊥) → (o && not (o && not h)) ≡ false
shared-false true true n = absurd (n refl refl)
shared-false true false n = refl
shared-false false h n = refl

or-assoc : (a b c : Bool) → (a || (b || c)) ≡ ((a || b) || c)
or-assoc true b c = refl
or-assoc false b c = refl

module _ (f : ℕ → Bool) where
  passes-append : (xs ys : List ℕ) → some_passes f (xs ++ ys) ≡ (some_passes f xs || some_passes f ys)
  passes-append [] ys = refl
  passes-append (x ∷ xs) ys = ap (λ b. f x || b) (passes-append xs ys) ∙ or-assoc (f x) (some_passes f xs) (some_passes f ys)

  passes-where : (t : Bool) (x : ℕ) → some_passes f (where_ t (x ∷ [])) ≡ (t && f x)
  passes-where true x = go (f x)
    where
      go : (b : Bool) → (b || false) ≡ b
      go true = refl
      go false = refl
  passes-where false x = refl

  origins-push : (R : Pairs) (p : ℕ × ℕ) (b : ℕ) → some_passes f (origins (R ++ p ∷ []) b) ≡ (some_passes f (origins R b) || (nat_eq p.1 b && f p.0))
  origins-push [] p b = passes-append (where_ (nat_eq p.1 b) (p.0 ∷ [])) [] ∙ go (some_passes f (where_ (nat_eq p.1 b) (p.0 ∷ []))) ∙ passes-where (nat_eq p.1 b) p.0
    where
      go : (b : Bool) → (b || false) ≡ b
      go true = refl
      go false = refl
  origins-push (q ∷ R) p b =
      passes-append (where_ (nat_eq q.1 b) (q.0 ∷ [])) (origins (R ++ p ∷ []) b)
      ∙ ap (λ v. some_passes f (where_ (nat_eq q.1 b) (q.0 ∷ [])) || v) (origins-push R p b)
      ∙ or-assoc (some_passes f (where_ (nat_eq q.1 b) (q.0 ∷ []))) (some_passes f (origins R b)) (nat_eq p.1 b && f p.0)
      ∙ ap (λ v. v || (nat_eq p.1 b && f p.0)) (sym (passes-append (where_ (nat_eq q.1 b) (q.0 ∷ [])) (origins R b)))

  -- one pair more, whose left side passes
  pub origins-yes : (R : Pairs) (p : ℕ × ℕ) (b : ℕ) (v : Bool) → f p.0 ≡ true → v ≡ some_passes f (origins R b) → (nat_eq p.1 b || v) ≡ some_passes f (origins (R ++ p ∷ []) b)
  origins-yes R p b v e h =
      ap (λ w. nat_eq p.1 b || w) h ∙ turn (nat_eq p.1 b) (some_passes f (origins R b)) (f p.0) e ∙ sym (origins-push R p b)
    where
      turn : (n o g : Bool) → g ≡ true → (n || o) ≡ (o || (n && g))
      turn true true true e = refl
      turn true false true e = refl
      turn false true true e = refl
      turn false false true e = refl
      turn n o false e = absurd (cc)

  -- or doesn't
  pub origins-no : (R : Pairs) (p : ℕ × ℕ) (b : ℕ) (v : Bool) → f p.0 ≡ false → v ≡ some_passes f (origins R b) → v ≡ some_passes f (origins (R ++ p ∷ []) b)
  origins-no R p b v e h = h ∙ turn (nat_eq p.1 b) (some_passes f (origins R b)) (f p.0) e ∙ sym (origins-push R p b)
    where
      turn : (n o g : Bool) → g ≡ false → o ≡ (o || (n && g))
      turn true true false e = refl
      turn true false false e = refl
      turn false true false e = refl
      turn false false false e = refl
      turn n o true e = absurd (cc)

  -- at the end
  pub sources-passes : (R : Pairs) (a : ℕ) (k v : Bool) → k ≡ (f a && is_empty (partners R a)) → v ≡ some_passes f (origins R a) → (k || v) ≡ some_passes f (sources R a)
  sources-passes R a k v e h =
      ap (λ w. w || v) e ∙ ap (λ w. (f a && is_empty (partners R a)) || w) h ∙ turn (f a) (is_empty (partners R a)) (some_passes f (origins R a))
      ∙ ap (λ w. some_passes f (origins R a) || w) (sym (passes-where (is_empty (partners R a)) a)) ∙ sym (passes-append (origins R a) (where_ (is_empty (partners R a)) (a ∷ [])))
    where
      turn : (g n o : Bool) → ((g && n) || o) ≡ (o || (n && g))
      turn true true true = refl
      turn true true false = refl
      turn true false true = refl
      turn true false false = refl
      turn false true true = refl
      turn false true false = refl
      turn false false true = refl
      turn false false false = refl

-- x and the rest where the test holds, else the rest
abbrev front : Bool → ℕ → List ℕ → List ℕ
front true x xs = x ∷ xs
front false x xs = xs

front-partners : (q : ℕ × ℕ) (R : Pairs) (a : ℕ) → partners (q ∷ R) a ≡ front (nat_eq q.0 a) q.1 (partners R a)
front-partners q R a = go (nat_eq q.0 a)
  where
    go : (v : Bool) → (elim v as (λ w. List ℕ) [ true ↦ q.1 ∷ partners R a | false ↦ partners R a ]) ≡ front v q.1 (partners R a)
    go true = refl
    go false = refl

front-empty : (v m : Bool) (x : ℕ) (xs ys : List ℕ) → is_empty xs ≡ (is_empty ys && m) → is_empty (front v x xs) ≡ (is_empty (front v x ys) && m)
front-empty true m x xs ys e = refl
front-empty false m x xs ys e = e

front-alone : (v : Bool) (x : ℕ) → is_empty (front v x []) ≡ not v
front-alone true x = refl
front-alone false x = refl

partners-push : (R : Pairs) (p : ℕ × ℕ) (a : ℕ) → is_empty (partners (R ++ p ∷ []) a) ≡ (is_empty (partners R a) && not (nat_eq p.0 a))
partners-push [] p a = ap (λ (l : List ℕ). is_empty l) (front-partners p [] a) ∙ front-alone (nat_eq p.0 a) p.1
partners-push (q ∷ R) p a =
    ap (λ (l : List ℕ). is_empty l) (front-partners q (R ++ p ∷ []) a)
    ∙ front-empty (nat_eq q.0 a) (not (nat_eq p.0 a)) q.1 (partners (R ++ p ∷ []) a) (partners R a) (partners-push R p a)
    ∙ ap (λ (l : List ℕ). is_empty l && not (nat_eq p.0 a)) (sym (front-partners q R a))

-- one pair more: what is kept
pub kept-push : (R : Pairs) (p : ℕ × ℕ) (a : ℕ) (g k : Bool) → k ≡ (g && is_empty (partners R a)) → (k && not (nat_eq p.0 a || false)) ≡ (g && is_empty (partners (R ++ p ∷ []) a))
kept-push R p a g k e =
    ap (λ w. w && not (nat_eq p.0 a || false)) e ∙ turn g (is_empty (partners R a)) (nat_eq p.0 a) ∙ ap (λ w. g && w) (sym (partners-push R p a))
  where
    turn : (g n o : Bool) → ((g && n) && not (o || false)) ≡ (g && (n && not o))
    turn true true true = refl
    turn true true false = refl
    turn true false true = refl
    turn true false false = refl
    turn false true true = refl
    turn false true false = refl
    turn false false true = refl
    turn false false false = refl

pub and-true : (b : Bool) → b ≡ (b && true)
and-true true = refl
and-true false = refl

-- ---- one set at a time
pub or-last : (b e : Bool) → e ≡ false → (b || e) ≡ b
or-last true e h = refl
or-last false e h = h

pub or-none : (b e : Bool) → b ≡ false → e ≡ false → (b || e) ≡ false
or-none true e h k = absurd (cc)
or-none false e h k = k

pub and-none : (b e : Bool) → b ≡ false → (b && e) ≡ false
and-none true e h = absurd (cc)
and-none false e h = refl

pub and-not-none : (b e : Bool) → e ≡ false → (b && not e) ≡ b
and-not-none b true h = absurd (cc)
and-not-none true false h = refl
and-not-none false false h = refl

pub joined-none : (s l r : Bool) → l ≡ false → r ≡ false → both_or_one s l r ≡ false
joined-none true l r h k = and-none l r h
joined-none false l r h k = or-none l r h k

pub passes-same : (f g : ℕ → Bool) → ((a : ℕ) → f a ≡ g a) → (as' : List ℕ) → some_passes f as' ≡ some_passes g as'
passes-same f g h [] = refl
passes-same f g h (a ∷ as') = ap (λ b. b || some_passes f as') (h a) ∙ ap (λ b. g a || b) (passes-same f g h as')

-- whether two sets share an event of Sigma, where the first has no tick
pub apart-says : (o h m : Event → Bool) (e : Bool) → ((x : Event) → m x ≡ (o x && not (o x && not (h x)))) → o tick ≡ false → IsTrue e ↔ ((x : Event) → m x ≡ false) → (not e ≡ false) ↔ ((a : ℕ) → h (ev a) ≡ true → o (ev a) ≡ true → ⊥)
apart-says o h m e b t says = (
  (λ n a y z. not-both (b (ev a) ∙ shared-true (o (ev a)) (h (ev a)) z y) (says.0 (not-false e n) (ev a))),
  (λ n. false-of (says.1 (nothing n))),
)
  where
    not-false : (c : Bool) → not c ≡ false → c ≡ true
    not-false true f = refl
    not-false false f = absurd (cc)

    false-of : {c : Bool} → c ≡ true → not c ≡ false
    false-of f = ap not f

    nothing : ((a : ℕ) → h (ev a) ≡ true → o (ev a) ≡ true → ⊥) → (x : Event) → m x ≡ false
    nothing n tick = b tick ∙ and-none (o tick) (not (o tick && not (h tick))) t
    nothing n (ev a) = b (ev a) ∙ shared-false (o (ev a)) (h (ev a)) (n a)
