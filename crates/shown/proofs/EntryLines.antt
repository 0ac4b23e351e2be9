-- The parts of an entry's line, and the trace after it.
use Rattle.std.proofs.Common.{◌≡◌, ◌↔◌, ℕ, suc, Bool, true, false, IsTrue, List, [], ◌∷◌, ◌++◌, length, Result, Ok, Err, OnOk, refl, sym, ap, ap₂, subst, ◌∙◌}
use Rattle.alphabet.specs.declared.events.Event.{Event}
use Rattle.alphabet.specs.declared.events.Report.{Report}
use Rattle.alphabet.specs.declared.events.Report.TheVariants as report
use Rattle.alphabet.specs.EventSets.{Set}
use Rattle.alphabet.specs.Channels.{Channel}
use Rattle.term.specs.Proc.{Proc, bodies_of}
use Rattle.term.specs.Specs.{Specified}
use Rattle.monitor.specs.TraceAfter.{trace_after}
use Rattle.history.specs.declared.entry.Entry.{Entry}
use Rattle.history.specs.Entries.{events}
use Rattle.history.proofs.Histories.{events-push}
use Rattle.shown.specs.declared.options.Format.{Format}
use Rattle.shown.specs.Names.{ending}
use Rattle.shown.specs.Lines.{Finding, accepted, expected, finding_text, head_text, report_text, line_text}
use Rattle.shown.specs.Findings.{Finds, HasNext, HasLine}
use Rattle.shown.proofs.Texts.{grown}

pub found : {T E : Type 0} (r : Result T E) (B : ℕ → Proc) (before : List Entry) (v : Bool) (said : Report) (format : Format) (cs ds : List Channel) (start new : List ℕ) (finding : Finding) →
    cs ≡ ds → Finds B before v said finding → OnOk r (new ≡ start ++ finding_text format cs finding)
    → OnOk r ((x : Finding) × Finds B before v said x × (new ≡ start ++ finding_text format ds x))
found (Ok t) B before v said format cs ds start new finding same finds all = (finding, finds, all ∙ ap (λ es. start ++ finding_text format es finding) same)
found (Err t) B before v said format cs ds start new finding same finds all = all

pub finds_accepted : (B : ℕ → Proc) (before : List Entry) (v : Bool) (said : Report) → v ≡ true → Finds B before v said accepted
finds_accepted B before v said e = subst (λ w. Finds B before w said accepted) (sym e) refl

pub finds_expected : (B : ℕ → Proc) (before : List Entry) (v : Bool) (said : Report) (x : Event) (X : Set) → v ≡ false → said ≡ report.Event x → HasNext B before X → Finds B before v said (expected X)
finds_expected B before v said x X e is next =
    subst (λ w. Finds B before w said (expected X)) (sym e) (subst (λ r. Finds B before false r (expected X)) (sym is) (X, next, refl))

-- the whole line from its parts
pub lined : {T E : Type 0} (r : Result T E) (format : Format) (spec : Specified) (cs : List Channel) (before : List Entry) (e : Entry) (place seat : ℕ) (start t1 t2 t3 new : List ℕ) →
    place ≡ suc (length before) → seat ≡ e.seat → cs ≡ spec.alphabet → t1 ≡ start ++ head_text format place seat e.number → t2 ≡ t1 ++ report_text format cs e.report →
    (finding : Finding) × Finds (bodies_of spec.bodies) before e.verdict e.report finding × (t3 ≡ t2 ++ finding_text format spec.alphabet finding) →
    OnOk r (new ≡ t3 ++ ending format) → OnOk r ((line : List ℕ) × HasLine format spec before e line × (new ≡ start ++ line))
unfolding line_text
lined (Err x) format spec cs before e place seat start t1 t2 t3 new at sat same e1 e2 f all = all
lined (Ok x) format spec cs before e place seat start t1 t2 t3 new at sat same e1 e2 f all =
    let head = head_text format (suc (length before)) e.seat e.number in
    let said = report_text format spec.alphabet e.report in
    let told = finding_text format spec.alphabet f.0 in
    let h1 : t1 ≡ start ++ head = e1 ∙ ap₂ (λ p s. start ++ head_text format p s e.number) at sat in
    let h2 : t2 ≡ start ++ (head ++ said) = grown start t1 t2 head said h1 (e2 ∙ ap (λ es. t1 ++ report_text format es e.report) same) in
    let h3 : t3 ≡ start ++ ((head ++ said) ++ told) = grown start t2 t3 (head ++ said) told h2 f.2 in (
      line_text format spec.alphabet (suc (length before)) e.seat e.number e.report f.0,
      (f.0, f.1, refl),
      grown start t3 new ((head ++ said) ++ told) (ending format) h3 all,
    )

-- ---- the trace

rejected_trace : (t : List Event) (r : Report) (v : Bool) → v ≡ false → trace_after t r v ≡ t
rejected_trace t (report.Event x) v e = ap (trace_after t (report.Event x)) e
rejected_trace t (report.Refusal X) v e = refl

pub unmoved : (before : List Entry) (e : Entry) (trace : List Event) → e.verdict ≡ false → trace ≡ events before → trace ≡ events (before ++ e ∷ [])
unmoved before e trace rejected is = is ∙ sym (rejected_trace (events before) e.report e.verdict rejected) ∙ events-push before e

pub refusal_unmoved : (before : List Entry) (e : Entry) (X : Set) (trace : List Event) → e.report ≡ report.Refusal X → trace ≡ events before → trace ≡ events (before ++ e ∷ [])
refusal_unmoved before e X trace refusal is =
    is ∙ sym (ap (λ r. trace_after (events before) r e.verdict) refusal) ∙ events-push before e

pub moved : (before : List Entry) (e : Entry) (trace old new : List Event) (said : Report) (v : Bool) → new ≡ trace_after trace said v → trace ≡ old → old ≡ events before → said ≡ e.report → v ≡ e.verdict
    → new ≡ events (before ++ e ∷ [])
moved before e trace old new said v is same at said_is v_is =
    is ∙ ap (λ t. trace_after t said v) (same ∙ at) ∙ ap₂ (λ r w. trace_after (events before) r w) said_is v_is ∙ events-push before e

pub both_true : (v w : Bool) (P : Type 0) → (IsTrue v ↔ P) → (IsTrue w ↔ P) → w ≡ true → v ≡ w
both_true v w P p q e = p.1 (q.0 e) ∙ sym e

pub on_ok : {T E P Q : Type 0} (r : Result T E) → (P → Q) → OnOk r P → OnOk r Q
on_ok (Ok x) f all = f all
on_ok (Err e) f all = all
