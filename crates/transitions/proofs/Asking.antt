-- What a process becomes, from what its parts become.
use Rattle.std.proofs.Common.{◌≡◌, ◌↔◌, ℕ, ◌<◌, ◌⊎◌, inl, inr, Bool, true, false, not, ◌&&◌, IsTrue, Result, Ok, Err, OnOk, IfOk, List, [], ◌∷◌, ◌++◌, length, refl, sym, ap, ◌∙◌, subst, true≢false}
use Rattle.alphabet.specs.EventSets.{Set, has, member}
use Rattle.term.specs.Events.{Event, ev}
use Rattle.term.specs.Traces.{In, here, there}
use Rattle.term.specs.Limits.{Terms}
use Rattle.term.specs.Proc.{Proc, stop}
use Rattle.term.specs.Steps.{Act, Hid, Ticks}
use Rattle.targets.specs.Offers.{offered}
use Rattle.targets.specs.Resting.{Resting}
use Rattle.targets.specs.Targets.{ticks}
use Rattle.targets.proofs.Members.{append-In, In-append_l, In-append_r}
use Rattle.targets.proofs.Ticking.{ticks-Ticks, Ticks-ticks}
use Rattle.targets.proofs.Offered.{Act-offered}
use Rattle.targets.proofs.Rest.{resting-says}
use Rattle.targets.specs.Cuts.{CutOf}
use Rattle.targets.specs.Among.{ActsIn, Joined}
use Rattle.targets.proofs.Cutting.{cut-to, cut-none, cut-one}
use Rattle.targets.proofs.Lists.{joined-cut}
use Rattle.targets.proofs.Inverting.{minus-parts, minus-whole}
use Rattle.nodes.specs.Tables.{Tabled, IsNumber}
use Rattle.nodes.specs.Looks.{look, ActsBy, AllBelow, IsCutIn}

-- ---- nothing, and one
pub none-in : (t : Tabled) (S : Terms) (k : ℕ) (ns : List ℕ) → ns ≡ [] → ((Q : Proc) → S Q → ⊥) → IsCutIn t S k ns
none-in t S k ns e h = subst (λ (l : List ℕ). IsCutIn t S k l) (sym e) (record { here = tt; cut = cut-none S k h })

pub single-in : (t : Tabled) (S : Terms) (k n : ℕ) (P : Proc) (old ns : List ℕ) → IsNumber t n P → ((Q : Proc) → (Q ≡ P) ↔ S Q) → old ≡ [] → ns ≡ old ++ n ∷ [] → IsCutIn t S k ns
single-in t S k n P old ns s same f e =
    subst (λ (l : List ℕ). IsCutIn t S k l) (sym (e ∙ ap (λ (l : List ℕ). l ++ n ∷ []) f))
    (record {
      here = (s.within, tt);
      cut = subst (λ (Q : Proc). CutOf S k (Q ∷ [])) (sym s.is) (cut-to (λ Q. Q ≡ P) S k (P ∷ []) same (cut-one k P));
    })

-- ---- tests
pub not-on : (b : Bool) → not b ≡ true → b ≡ false
not-on true e = absurd (cc)
not-on false e = refl

pub not-off : (b : Bool) → not b ≡ false → b ≡ true
not-off true e = refl
not-off false e = absurd (cc)

-- ---- results
pub always : {T E : Type 0} (r : Result T E) (X : Type 0) → X → OnOk r X
always (Ok x) X h = h
always (Err e) X h = tt

pub if-both : {T E : Type 0} (r : Result T E) (X Y Z : T → Type 0) → IfOk r X → IfOk r Y → ((x : T) → X x → Y x → Z x) → IfOk r Z
if-both (Ok x) X Y Z p q f = f x p q
if-both (Err e) X Y Z p q f = tt

-- ---- by what is known of the process
pub no-end : (P : Proc) (b : Bool) → b ≡ ticks P → b ≡ false → (Q : Proc) → Ticks P × (Q ≡ stop) → ⊥
no-end P b e f Q d = true≢false (sym (Ticks-ticks d.0) ∙ sym e ∙ f)

pub one-end : (P : Proc) (b : Bool) → b ≡ ticks P → b ≡ true → (Q : Proc) → (Q ≡ stop) ↔ (Ticks P × (Q ≡ stop))
one-end P b e f Q = ((λ s. (ticks-Ticks P (sym e ∙ f), s)), (λ d. d.1))

pub no-act : (P : Proc) (a : ℕ) (b : Bool) → b ≡ offered P a → b ≡ false → (Q : Proc) → Act P a Q → ⊥
no-act P a b e f Q d = true≢false (sym (Act-offered d) ∙ sym e ∙ f)

pub no-hidden : (B : ℕ → Proc) (P : Proc) (b : Bool) → IsTrue b ↔ Resting P → b ≡ true → (Q : Proc) → Hid B P Q → ⊥
no-hidden B P true e f Q d = (resting-says B P).0 (e.0 refl) Q d
no-hidden B P false e f Q d = absurd (cc)

-- ---- the hidden events that the process offers
pub hidden-asked : (A H O I S : Set) (P : Proc) (es : List ℕ) → H ≡ A → ((a : ℕ) → has A a ≡ true → a < 256) → ((a : ℕ) → has O a ≡ offered P a) → ((x : Event) → member I x ≡ (member H x && not (member O x))) → ((x : Event) → member S x ≡ (member H x && not (member I x))) → ((a : ℕ) → In a es → has S a ≡ true) → ((a : ℕ) → a < 256 → has S a ≡ true → In a es) → (Q : Proc) → ActsBy es P Q ↔ ActsIn A P Q
hidden-asked A H O I S P es same small offers inner outer only all Q = (forth, back)
  where
    in-H : (a : ℕ) → has H a ≡ has A a
    in-H a = ap (λ (s : ℕ). has s a) same

    forth : ActsBy es P Q → ActsIn A P Q
    forth (a, i, d) = (a, sym (in-H a) ∙ (minus-parts (has S a) (has H a) (has I a) (outer (ev a)) (only a i)).0, d)

    no : (v b : Bool) → v ≡ (b && not true) → v ≡ false
    no v true e = e
    no v false e = e

    not-inner : (a : ℕ) → has O a ≡ true → has I a ≡ false
    not-inner a y = no (has I a) (has H a) (inner (ev a) ∙ ap (λ (b : Bool). has H a && not b) y)

    back : ActsIn A P Q → ActsBy es P Q
    back (a, y, d) = (a, all a (small a y) (minus-whole (has S a) (has H a) (has I a) (outer (ev a)) (in-H a ∙ y) (not-inner a (offers a ∙ Act-offered d))), d)

-- ---- one event after the other
pub by-none : (t : Tabled) (P : Proc) (k : ℕ) (ns : List ℕ) → ns ≡ [] → IsCutIn t (ActsBy [] P) k ns
by-none t P k ns e = none-in t (ActsBy [] P) k ns e (λ Q (a, i, d). elim i [ ])

pub by-more : (t : Tabled) (es : List ℕ) (a k : ℕ) (P : Proc) (ms ls ns : List ℕ) → IsCutIn t (ActsBy es P) k ms → IsCutIn t (Act P a) k ls → AllBelow (length t.processes) ns → Joined k (look t.processes ms) (look t.processes ls) (look t.processes ns) → IsCutIn t (ActsBy (es ++ a ∷ []) P) k ns
by-more t es a k P ms ls ns c d b j =
    record {
      here = b;
      cut = cut-to (λ Q. ActsBy es P Q ⊎ Act P a Q) (ActsBy (es ++ a ∷ []) P) k (look t.processes ns) (λ Q. (forth Q, back Q))
          (joined-cut (ActsBy es P) (Act P a) k (look t.processes ms) (look t.processes ls) (look t.processes ns) c.cut d.cut j);
    }
  where
    forth : (Q : Proc) → ActsBy es P Q ⊎ Act P a Q → ActsBy (es ++ a ∷ []) P Q
    forth Q (inl (b, m, x)) = (b, In-append_l m (a ∷ []), x)
    forth Q (inr x) = (a, In-append_r es here, x)

    one : {b c : ℕ} → In b (c ∷ []) → b ≡ c
    one here = refl
    one (there i) = elim i [ ]

    back : (Q : Proc) → ActsBy (es ++ a ∷ []) P Q → ActsBy es P Q ⊎ Act P a Q
    back Q (b, m, x) =
        elim (append-In es (a ∷ []) b m) [
          | inl n ↦ inl (b, n, x)
          | inr n ↦ inr (subst (λ (c : ℕ). Act P c Q) (one n) x)
        ]

-- ---- two lists together
pub both-in : (t : Tabled) (S T : Terms) (k : ℕ) (ms ls ns : List ℕ) → IsCutIn t S k ms → IsCutIn t T k ls → AllBelow (length t.processes) ns → Joined k (look t.processes ms) (look t.processes ls) (look t.processes ns) → IsCutIn t (λ Q. S Q ⊎ T Q) k ns
both-in t S T k ms ls ns c d b j = record { here = b; cut = joined-cut S T k (look t.processes ms) (look t.processes ls) (look t.processes ns) c.cut d.cut j }

-- the same set under another name
pub cut-in-to : (t : Tabled) (S T : Terms) (k : ℕ) (ns : List ℕ) → ((Q : Proc) → S Q ↔ T Q) → IsCutIn t S k ns → IsCutIn t T k ns
cut-in-to t S T k ns e c = record { here = c.here; cut = cut-to S T k (look t.processes ns) e c.cut }
