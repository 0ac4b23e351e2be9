-- What is learned of the values of names, one after the other.
use Rattle.std.proofs.Common.{◌≡◌, ℕ, ◌+◌, List, length, Bool, true, false, cond, Option, Some, None, is_some, sym, ap, ◌∙◌, arith, refl}
use Rattle.std.specs.Cmp.Lexicographic.{bytes_decides}
use Rattle.values.specs.Values.{◌>>=◌, Name}
use Rattle.values.specs.Worths.{Worth, Known}
use Rattle.values.specs.Names.{Entry, Meaning, same_name, meaning, worth_of, known_in, next_known, IsReached, IsWithin, Stands}
use Rattle.values.proofs.Named.{later_steps, sound_step, stands_by_steps}
use Rattle.declared_names.specs.Standing.{IsSettled, SettlesFirst}
use Rattle.declared_names.proofs.Chains.{some_same}
use Rattle.declared_names.proofs.Searching.{place_of, with_value}

-- what is reached is one worth only
one_worth : (es : List Entry) (n : Name) (v w : Worth) → (j : ℕ) × (known_in es j n ≡ Some v) → (k : ℕ) × (known_in es k n ≡ Some w) → v ≡ w
one_worth es n v w p q =
    let (j, a) = p in
    let (k, b) = q in
    let c : known_in es (k + j) n ≡ Some v = later_steps es k j n v a in
    let d : known_in es (j + k) n ≡ Some w = later_steps es j k n w b in
    let e : k + j ≡ j + k = omega arith in
    some_same (sym c ∙ ap (λ i. known_in es i n) e ∙ d)

-- a name that the table has
pub settled_known : (es : List Entry) (f : Known) (n : Name) → IsReached es f → is_some (f n) ≡ true → IsSettled es f n
settled_known es f n h has w e = by (f n) refl
  where
    by : (o : Option Worth) → f n ≡ o → f n ≡ Some w
    by None p = absurd (let x : false ≡ true = sym (ap is_some p) ∙ has in cc)
    by (Some v) p = p ∙ ap (λ (u : Worth). let s : Option Worth = Some u in s) (one_worth es n v w (h n v p) (sound_step es f h n w e))

-- a name whose definition says nothing
pub settled_none : (es : List Entry) (f : Known) (n : Name) → next_known es f n ≡ None → IsSettled es f n
settled_none es f n h w e = absurd (let x : None ≡ Some w = sym h ∙ e in cc)

pub reached_more : (es : List Entry) (f g : Known) (n : Name) (w : Worth) → IsReached es f → next_known es f n ≡ Some w → ((m : Name) → g m ≡ with_value f n w m) → IsReached es g
reached_more es f g n w h e is m u p = by (same_name m n) refl (sym (is m) ∙ p)
  where
    by : (b : Bool) → same_name m n ≡ b → cond b (Some w) (f m) ≡ Some u → (k : ℕ) × (known_in es k m ≡ Some u)
    by true s q = sound_step es f h m u (ap (next_known es f) ((bytes_decides m n).0 s) ∙ e ∙ q)
    by false s q = h m u q

-- what a definition says has a meaning after it
said : (es : List Entry) (f : Known) (n : Name) (w : Worth) → next_known es f n ≡ Some w → (m : Meaning) × (meaning es n ≡ Some m)
unfolding next_known
said es f n w h = by (meaning es n) refl
  where
    by : (o : Option Meaning) → meaning es n ≡ o → (m : Meaning) × (meaning es n ≡ Some m)
    by None p = absurd (let x : None ≡ Some w = sym (ap (λ o. o >>= worth_of f n) p) ∙ h in cc)
    by (Some m) p = (m, p)

-- ---- when nothing is learned

all_settled : (es : List Entry) (f : Known) → SettlesFirst (IsSettled es) es f (length es) → IsWithin (next_known es f) f
all_settled es f h n w e =
    let (m, a) = said es f n w e in
    let (j, d, p, r, lt) = place_of es n m a in
    ap f r ∙ h j d lt p w (ap (next_known es f) (sym r) ∙ e)

pub stands : (es : List Entry) (f : Known) → IsReached es f → SettlesFirst (IsSettled es) es f (length es) → Stands es f
stands es f h all = stands_by_steps es f h (all_settled es f all)
