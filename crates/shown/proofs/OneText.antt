-- A history has one text.
use Rattle.std.proofs.Common.{◌≡◌, ℕ, suc, Bool, true, false, List, [], ◌∷◌, ◌++◌, length, refl, sym, ap, ap₂, subst, ◌∙◌}
use Rattle.std.specs.List.{flat_map}
use Rattle.alphabet.specs.declared.events.Report.{Report}
use Rattle.alphabet.specs.declared.events.Report.TheVariants as report
use Rattle.alphabet.specs.EventSets.{Set, member}
use Rattle.alphabet.specs.Channels.{Channel, event_count}
use Rattle.alphabet.proofs.Sets.{same_set}
use Rattle.term.specs.Proc.{Proc, bodies_of, root}
use Rattle.term.specs.Specs.{Specified}
use Rattle.history.specs.declared.entry.Entry.{Entry}
use Rattle.history.specs.Entries.{events}
use Rattle.shown.specs.declared.options.Format.{Format}
use Rattle.shown.specs.declared.options.Options.{Options}
use Rattle.shown.specs.Lines.{Finding, expected, offered, is_selected, line_text}
use Rattle.shown.specs.Findings.{Finds, HasLine, HasLineIf, HasNext, ShowsEntry}
use Rattle.shown.specs.Coverage.{IsCoverage, absent_text, coverage_line, coverage_lines}
use Rattle.shown.specs.Shows.{HasCoverageIf, OneForEach, Shows, more, none}
use Rattle.shown.proofs.OneList.{one_list, same-test}

-- ---- one item for each entry
last-same : {X : Type 0} (xs ys : List X) (x y : X) → xs ++ x ∷ [] ≡ ys ++ y ∷ [] → (xs ≡ ys) × (x ≡ y)
last-same [] [] x y e = let s : x ≡ y = cc in (refl, s)
last-same [] (b ∷ []) x y e = absurd (cc)
last-same [] (b ∷ c ∷ ys) x y e = absurd (cc)
last-same (a ∷ []) [] x y e = absurd (cc)
last-same (a ∷ b ∷ xs) [] x y e = absurd (cc)
last-same (a ∷ xs) (b ∷ ys) x y e =
    let s : a ≡ b = cc in
    let t : xs ++ x ∷ [] ≡ ys ++ y ∷ [] = cc in
    let (front, end) = last-same xs ys x y t in
    (ap₂ (λ z zs. z ∷ zs) s front, end)

none-last : {X : Type 0} (xs : List X) (x : X) → [] ≡ xs ++ x ∷ [] → ⊥
none-last [] x e = cc
none-last (y ∷ xs) x e = cc

module _ {X : Type 0} (P : List Entry → Entry → X → Type 0) (one : (before : List Entry) (e : Entry) (x y : X) → P before e x → P before e y → x ≡ y) where
  one-each : (h k : List Entry) (xs ys : List X) → h ≡ k → OneForEach P h xs → OneForEach P k ys → xs ≡ ys
  one-each h k xs ys same none none = refl
  one-each h k xs ys same none (more {before = b} {e = x} r p) = absurd (none-last b x same)
  one-each h k xs ys same (more {before = b} {e = x} r p) none = absurd (none-last b x (sym same))
  one-each h k xs ys same (more {before = b} {items = is} {e = x} {item = i} r p) (more {before = c} {items = js} {e = y} {item = j} s q) =
      let (front, end) = last-same b c x y same in
      let p' : P c y i = subst (λ (l : List Entry). P l y i) front (subst (λ (z : Entry). P b z i) end p) in
      ap₂ (λ zs z. zs ++ z ∷ []) (one-each b c is js front r s) (one c y i j p' q)

-- ---- one line for an entry
one-next : (B : ℕ → Proc) (before : List Entry) (X Y : Set) → HasNext B before X → HasNext B before Y → X ≡ Y
one-next B before X Y f g =
    same_set X Y (λ x. same-test (member X x) (member Y x) (λ m. (g x).1 ((f x).0 m)) (λ m. (f x).1 ((g x).0 m)))

one-finding : (B : ℕ → Proc) (before : List Entry) (v : Bool) (r : Report) (p q : Finding) → Finds B before v r p → Finds B before v r q → p ≡ q
one-finding B before true r p q f g = f ∙ sym g
one-finding B before false (report.Event x) p q (X, f, d) (Y, g, e) = d ∙ ap expected (one-next B before X Y f g) ∙ sym e
one-finding B before false (report.Refusal X) p q (first, f, d) (second, g, e) = d ∙ ap offered (one_list B root (events before) first second f g) ∙ sym e

one-line : (format : Format) (spec : Specified) (before : List Entry) (e : Entry) (a b : List ℕ) → HasLine format spec before e a → HasLine format spec before e b → a ≡ b
one-line format spec before e a b (p, f, is) (q, g, are) =
    is
    ∙ ap (λ (x : Finding). line_text format spec.alphabet (suc (length before)) e.seat e.number e.report x) (one-finding (bodies_of spec.bodies) before e.verdict e.report p q f g)
    ∙ sym are

one-line-if : (wanted : Bool) (format : Format) (spec : Specified) (before : List Entry) (e : Entry) (a b : List ℕ) → HasLineIf wanted format spec before e a → HasLineIf wanted format spec before e b → a ≡ b
one-line-if true format spec before e a b f g = one-line format spec before e a b f g
one-line-if false format spec before e a b f g = f ∙ sym g

one-part : (options : Options) (spec : Specified) (before : List Entry) (e : Entry) (a b : List ℕ) → ShowsEntry options spec before e a → ShowsEntry options spec before e b → a ≡ b
one-part options spec before e a b f g = one-line-if (is_selected options.entries e.verdict) options.format spec before e a b f g

-- ---- one coverage
one-coverage : (format : Format) (cs : List Channel) (h : List Entry) (nexts : List Set) (a b : List ℕ) → IsCoverage format cs h nexts a → IsCoverage format cs h nexts b → a ≡ b
one-coverage format cs h nexts a b p q =
    let never : p.never ≡ q.never = same_set p.never q.never (λ x. p.never_are x ∙ sym (q.never_are x)) in
    let impossible : p.impossible ≡ q.impossible = same_set p.impossible q.impossible (λ x. p.impossible_are x ∙ sym (q.impossible_are x)) in
    p.is ∙ ap₂ (λ (X Y : Set). coverage_lines (coverage_line format cs h nexts) (event_count cs) ++ absent_text format cs X Y) never impossible ∙ sym q.is

one-coverage-if : (wanted : Bool) (options : Options) (spec : Specified) (h : List Entry) (nexts : List Set) (a b : List ℕ) → HasCoverageIf wanted options spec h nexts a → HasCoverageIf wanted options spec h nexts b → a ≡ b
one-coverage-if true options spec h nexts a b f g = one-coverage options.format spec.alphabet h nexts a b f g
one-coverage-if false options spec h nexts a b f g = f ∙ sym g

-- ---- one text
pub one_text : (options : Options) (spec : Specified) (h : List Entry) (first second : List ℕ) → Shows options spec h first → Shows options spec h second → first ≡ second
one_text options spec h first second p q =
    let B = bodies_of spec.bodies in
    let parts : p.parts ≡ q.parts = one-each (ShowsEntry options spec) (one-part options spec) h h p.parts q.parts refl p.parts_are q.parts_are in
    let nexts : p.nexts ≡ q.nexts = one-each (λ before e X. HasNext B before X) (λ before e X Y. one-next B before X Y) h h p.nexts q.nexts refl p.nexts_are q.nexts_are in
    let coverage : p.coverage ≡ q.coverage =
    one-coverage-if options.coverage options spec h q.nexts p.coverage q.coverage (subst (λ (sets : List Set). HasCoverageIf options.coverage options spec h sets p.coverage) nexts p.coverage_is) q.coverage_is in
    p.is ∙ ap₂ (λ (ts : List (List ℕ)) (t : List ℕ). flat_map (λ part. part) ts ++ t) parts coverage ∙ sym q.is
