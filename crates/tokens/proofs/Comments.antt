-- Comments.
use Rattle.std.proofs.Common.{◌≡◌, ℕ, zero, suc, ◌+◌, ◌-◌, ◌<◌, ◌≤◌, List, [], ◌∷◌, ◌++◌, Bool, true, false, cond, length, Option, Some, None, append_assoc, refl, sym, ap, subst, ◌∙◌, arith}
use Rattle.std.specs.Prelude.{◌==◌, ◌&&◌, ◌||◌}
use Rattle.std.proofs.lemmas.Bool.{eqb-true}
use Rattle.std.proofs.lemmas.List.{append-nil}
use Rattle.tokens.specs.Text.{Comment, Closed, Byte, Nested, comment_bytes, IsComment, marks_comment}
use Rattle.tokens.specs.Scanning.{behind_comments, comment_step}
use Rattle.tokens.proofs.Tables.{some_is, some_of, both}

none_open : (rest : List ℕ) → behind_comments rest 0 ≡ Some rest
unfolding behind_comments
none_open [] = refl
none_open (c ∷ []) = refl
none_open (c ∷ e ∷ rest) = refl

pub behind_none_open : (rest : List ℕ) (d : ℕ) → d ≡ 0 → behind_comments rest d ≡ Some rest
behind_none_open rest d e = ap (behind_comments rest) e ∙ none_open rest

-- one step through comments goes from one place to another
pub record Passes (d : ℕ) (text : List ℕ) (k : ℕ) (rest : List ℕ) : Type 0 where
  pub same : behind_comments text d ≡ behind_comments rest k
  pub shorter : length rest < length text
  pub few : k + length rest ≤ d + length text

open_still : (d : ℕ) → 0 < d → (d == 0) ≡ false
open_still d h = at (d == 0) refl
  where
    at : (b : Bool) → (d == 0) ≡ b → b ≡ false
    at true e = absurd (omega (arith, eqb-true _ _ e))
    at false e = refl

-- a step with these tests, and what it leads to
abbrev chosen : {A : Type 0} → Bool → Bool → A → A → A → A
chosen opens closes x y z = cond opens x (cond closes y z)

step_at : (d e : ℕ) (rest : List ℕ) (x : ℕ × List ℕ) (opens closes : Bool) → chosen opens closes (Some (d + 1, rest)) (Some (d - 1, rest)) (Some (d, e ∷ rest)) ≡ some_of x → (chosen opens closes (behind_comments rest (d + 1)) (behind_comments rest (d - 1)) (behind_comments (e ∷ rest) d) ≡ behind_comments x.1 x.0) × (length x.1 < suc (suc (length rest))) × (x.0 + length x.1 ≤ d + suc (suc (length rest)))
step_at d e rest x true closes is =
    subst (λ (y : ℕ × List ℕ). (behind_comments rest (d + 1) ≡ behind_comments y.1 y.0) × (length y.1 < suc (suc (length rest))) × (y.0 + length y.1 ≤ d + suc (suc (length rest)))) (some_is (d + 1, rest) x is) (refl, omega arith, omega arith)
step_at d e rest x false true is =
    subst (λ (y : ℕ × List ℕ). (behind_comments rest (d - 1) ≡ behind_comments y.1 y.0) × (length y.1 < suc (suc (length rest))) × (y.0 + length y.1 ≤ d + suc (suc (length rest)))) (some_is (d - 1, rest) x is) (refl, omega arith, omega arith)
step_at d e rest x false false is =
    subst (λ (y : ℕ × List ℕ). (behind_comments (e ∷ rest) d ≡ behind_comments y.1 y.0) × (length y.1 < suc (suc (length rest))) × (y.0 + length y.1 ≤ d + suc (suc (length rest)))) (some_is (d, e ∷ rest) x is) (refl, omega arith, omega arith)

pub step_is : (d : ℕ) (text : List ℕ) (x : ℕ × List ℕ) → 0 < d → comment_step d text ≡ Some x → Passes d text x.0 x.1
unfolding comment_step behind_comments
step_is d [] x h e = absurd cc
step_is d (c ∷ []) x h e =
    subst (λ (y : ℕ × List ℕ). Passes d (c ∷ []) y.0 y.1) (some_is (d, []) x e)
    (record { same = rw (open_still d h) refl; shorter = omega arith; few = omega arith })
step_is d (c ∷ e ∷ rest) x h is =
    let found = step_at d e rest x (c == 123 && e == 45) (c == 45 && e == 125) is in
    record { same = rw (open_still d h) found.0; shorter = found.1; few = found.2 }

abbrev none_of : (A : Type 0) → Option A
none_of A = None

step_never : (d e : ℕ) (rest : List ℕ) (opens closes : Bool) → chosen {A = Option (ℕ × List ℕ)} opens closes (Some (d + 1, rest)) (Some (d - 1, rest)) (Some (d, e ∷ rest)) ≡ none_of (ℕ × List ℕ) → ⊥
step_never d e rest true closes is = cc
step_never d e rest false true is = cc
step_never d e rest false false is = cc

pub none_is : (d : ℕ) (text : List ℕ) → 0 < d → comment_step d text ≡ None → behind_comments text d ≡ None
unfolding comment_step behind_comments
none_is d [] h e = rw (open_still d h) refl
none_is d (c ∷ []) h e = absurd cc
none_is d (c ∷ e ∷ rest) h is = absurd (step_never d e rest (c == 123 && e == 45) (c == 45 && e == 125) is)

-- what ends so many open comments
abbrev pub closing : List Comment → List ℕ
closing [] = []
closing (k ∷ ks) = comment_bytes k ++ closing ks

abbrev pub AreComments : List Comment → Type 0
AreComments [] = Unit {0}
AreComments (k ∷ ks) = IsComment k × AreComments ks

-- the first byte of what stands in a comment
head_of : (k : Comment) → (e : ℕ) × (t : List ℕ) × (comment_bytes k ≡ e ∷ t)
head_of Closed = (45, 125 ∷ [], refl)
head_of (Byte c k) = (c, comment_bytes k, refl)
head_of (Nested j k) = (123, 45 ∷ (comment_bytes j ++ comment_bytes k), refl)

pub or_false : (a b : Bool) → (a || b) ≡ false → (a ≡ false) × (b ≡ false)
or_false true b e = absurd cc
or_false false b e = (refl, e)

byte_on : (c d e : ℕ) (t : List ℕ) → marks_comment (c ∷ e ∷ t) ≡ false → 0 < d → behind_comments (c ∷ e ∷ t) d ≡ behind_comments (e ∷ t) d
unfolding behind_comments
byte_on c d e t m low =
    let tests = or_false (c == 123 && e == 45) (c == 45 && e == 125) m in
    rw (open_still d low) (rw tests.0 (rw tests.1 refl))

-- a comment closes where it ends
pub closes : (k : Comment) (d : ℕ) (rest : List ℕ) → IsComment k → 0 < d → behind_comments (comment_bytes k ++ rest) d ≡ behind_comments rest (d - 1)
unfolding behind_comments
closes Closed d rest h low = rw (open_still d low) refl
closes (Byte c k) d rest h low =
    byte_then (head_of k) (closes k d rest h.1 low)
  where
    byte_then : ((e : ℕ) × (t : List ℕ) × (comment_bytes k ≡ e ∷ t)) → behind_comments (comment_bytes k ++ rest) d ≡ behind_comments rest (d - 1) → behind_comments (c ∷ comment_bytes k ++ rest) d ≡ behind_comments rest (d - 1)
    byte_then (e, t, is) ih =
        ap (λ (bytes : List ℕ). behind_comments (c ∷ bytes ++ rest) d) is
        ∙ byte_on c d e (t ++ rest) (sym (ap (λ (bytes : List ℕ). marks_comment (c ∷ bytes)) is) ∙ h.0) low
        ∙ ap (λ (bytes : List ℕ). behind_comments (bytes ++ rest) d) (sym is)
        ∙ ih
closes (Nested j k) d rest h low =
    rw (open_still d low)
    (ap (λ (bytes : List ℕ). behind_comments bytes (d + 1)) (append_assoc (comment_bytes j) (comment_bytes k) rest)
    ∙ closes j (d + 1) (comment_bytes k ++ rest) h.0 (omega arith)
    ∙ ap (behind_comments (comment_bytes k ++ rest)) (omega arith)
    ∙ closes k d rest h.1 low)

-- what was passed is that many ends of comments
pub record Passed (text : List ℕ) (d : ℕ) (rest : List ℕ) : Type 0 where
  pub comments : List Comment
  pub fine : AreComments comments
  pub count : length comments ≡ d
  pub spelled : text ≡ closing comments ++ rest

passed_none : (text : List ℕ) (d : ℕ) (r : List ℕ) (o : Option (List ℕ)) → cond (d == 0) (Some text) o ≡ some_of r → (d == 0) ≡ true → Passed text d r
passed_none text d r o is z =
    let same : text ≡ r = some_is text r (sym (ap (λ (b : Bool). cond b (Some text) o) z) ∙ is) in
    record { comments = []; fine = tt; count = sym (eqb-true d 0 z); spelled = same }

passed_opening : (rest : List ℕ) (d : ℕ) (r : List ℕ) (ks : List Comment) → 0 < d → AreComments ks → length ks ≡ d + 1 → rest ≡ closing ks ++ r → Passed (123 ∷ 45 ∷ rest) d r
passed_opening rest d r [] low fine n is = absurd (omega (arith, n))
passed_opening rest d r (j ∷ []) low fine n is = absurd (omega (arith, n, low))
passed_opening rest d r (j ∷ k ∷ ks) low fine n is =
    record {
      comments = Nested j k ∷ ks;
      fine = ((fine.0, fine.1.0), fine.1.1);
      count = omega (arith, n);
      spelled = ap (λ (t : List ℕ). 123 ∷ 45 ∷ t) (is ∙ ap (λ (t : List ℕ). t ++ r) (sym (append_assoc (comment_bytes j) (comment_bytes k) (closing ks))));
    }

pub same_head : (a b : ℕ) (s t : List ℕ) → (a ∷ s) ≡ (b ∷ t) → a ≡ b
same_head a b s t e = cc

passed_byte : (c e : ℕ) (rest : List ℕ) (d : ℕ) (r : List ℕ) (ks : List Comment) → 0 < d → (c == 123 && e == 45) ≡ false → (c == 45 && e == 125) ≡ false → AreComments ks → length ks ≡ d → (e ∷ rest) ≡ closing ks ++ r → Passed (c ∷ e ∷ rest) d r
passed_byte c e rest d r [] low x y fine n is = absurd (omega (arith, n, low))
passed_byte c e rest d r (k ∷ ks) low x y fine n is =
    passed (head_of k)
  where
    passed : ((f : ℕ) × (t : List ℕ) × (comment_bytes k ≡ f ∷ t)) → Passed (c ∷ e ∷ rest) d r
    passed (f, t, at) =
        let same : e ≡ f = same_head e f rest ((t ++ closing ks) ++ r) (is ∙ ap (λ (b : List ℕ). (b ++ closing ks) ++ r) at) in
        let plain : marks_comment (c ∷ f ∷ t) ≡ false = subst (λ (g : ℕ). marks_comment (c ∷ g ∷ t) ≡ false) same (rw x y) in
        record {
          comments = Byte c k ∷ ks;
          fine = ((ap (λ (b : List ℕ). marks_comment (c ∷ b)) at ∙ plain, fine.0), fine.1);
          count = n;
          spelled = ap (λ (t : List ℕ). c ∷ t) is;
        }

not_open : (d : ℕ) → (d == 0) ≡ false → 0 < d
not_open zero z = absurd cc
not_open (suc d) z = omega arith

passed_short : (text : List ℕ) (d : ℕ) (r : List ℕ) (b : Bool) → (d == 0) ≡ b → cond (d == 0) (Some text) None ≡ some_of r → Passed text d r
passed_short text d r true z is = passed_none text d r None is z
passed_short text d r false z is = absurd (nothing (sym (ap (λ (b : Bool). cond b (Some text) None) z) ∙ is))
  where
    nothing : none_of (List ℕ) ≡ some_of r → ⊥
    nothing e = cc

passed_long : (c e : ℕ) (rest : List ℕ) (d : ℕ) (r : List ℕ) (opens closes : Bool) → 0 < d → (c == 123 && e == 45) ≡ opens → (c == 45 && e == 125) ≡ closes → chosen opens closes (behind_comments rest (d + 1)) (behind_comments rest (d - 1)) (behind_comments (e ∷ rest) d) ≡ some_of r → (behind_comments rest (d + 1) ≡ Some r → Passed rest (d + 1) r) → (behind_comments rest (d - 1) ≡ Some r → Passed rest (d - 1) r) → (behind_comments (e ∷ rest) d ≡ Some r → Passed (e ∷ rest) d r) → Passed (c ∷ e ∷ rest) d r
passed_long c e rest d r true closes low x y is open_more close_one stay =
    let inner = open_more is in
    let tests = both (c == 123) (e == 45) x in
    subst (λ (a : ℕ). Passed (a ∷ e ∷ rest) d r) (sym (eqb-true c 123 tests.0))
    (subst (λ (a : ℕ). Passed (123 ∷ a ∷ rest) d r) (sym (eqb-true e 45 tests.1))
    (passed_opening rest d r inner.comments low inner.fine inner.count inner.spelled))
passed_long c e rest d r false true low x y is open_more close_one stay =
    let inner = close_one is in
    let tests = both (c == 45) (e == 125) y in
    subst (λ (a : ℕ). Passed (a ∷ e ∷ rest) d r) (sym (eqb-true c 45 tests.0))
    (subst (λ (a : ℕ). Passed (45 ∷ a ∷ rest) d r) (sym (eqb-true e 125 tests.1))
    (record { comments = Closed ∷ inner.comments; fine = (tt, inner.fine); count = omega (arith, inner.count); spelled = ap (λ (t : List ℕ). 45 ∷ 125 ∷ t) inner.spelled }))
passed_long c e rest d r false false low x y is open_more close_one stay =
    let inner = stay is in
    passed_byte c e rest d r inner.comments low x y inner.fine inner.count inner.spelled

passed_two : (c e : ℕ) (rest : List ℕ) (d : ℕ) (r : List ℕ) (b : Bool) → (d == 0) ≡ b → cond b (Some (c ∷ e ∷ rest)) (chosen (c == 123 && e == 45) (c == 45 && e == 125) (behind_comments rest (d + 1)) (behind_comments rest (d - 1)) (behind_comments (e ∷ rest) d)) ≡ some_of r → (behind_comments rest (d + 1) ≡ Some r → Passed rest (d + 1) r) → (behind_comments rest (d - 1) ≡ Some r → Passed rest (d - 1) r) → (behind_comments (e ∷ rest) d ≡ Some r → Passed (e ∷ rest) d r) → Passed (c ∷ e ∷ rest) d r
passed_two c e rest d r true z is open_more close_one stay = passed_none (c ∷ e ∷ rest) d r None (ap (λ (b : Bool). cond b (Some (c ∷ e ∷ rest)) None) z ∙ is) z
passed_two c e rest d r false z is open_more close_one stay = passed_long c e rest d r (c == 123 && e == 45) (c == 45 && e == 125) (not_open d z) refl refl is open_more close_one stay

-- what comes after open comments comes after their ends
pub passed : (text : List ℕ) (d : ℕ) (r : List ℕ) → behind_comments text d ≡ Some r → Passed text d r
unfolding behind_comments
passed [] d r is = passed_short [] d r (d == 0) refl is
passed (c ∷ []) d r is = passed_short (c ∷ []) d r (d == 0) refl is
passed (c ∷ e ∷ rest) d r is = passed_two c e rest d r (d == 0) refl is (passed rest (d + 1) r) (passed rest (d - 1) r) (passed (e ∷ rest) d r)

-- what comes after one open comment
pub passed_one : (text r : List ℕ) → behind_comments text 1 ≡ Some r → (k : Comment) × IsComment k × (text ≡ comment_bytes k ++ r)
passed_one text r is = one (passed text 1 r is).comments (passed text 1 r is).fine (passed text 1 r is).count (passed text 1 r is).spelled
  where
    one : (ks : List Comment) → AreComments ks → length ks ≡ 1 → text ≡ closing ks ++ r → (k : Comment) × IsComment k × (text ≡ comment_bytes k ++ r)
    one [] fine n is = absurd (omega (arith, n))
    one (k ∷ []) fine n is = (k, fine.0, is ∙ ap (λ (t : List ℕ). t ++ r) (append-nil (comment_bytes k)))
    one (j ∷ k ∷ ks) fine n is = absurd (omega (arith, n))
