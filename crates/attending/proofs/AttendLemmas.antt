-- What is made of a line.
use Rattle.std.proofs.Common.{◌≡◌, ◌⊎◌, ◌≢◌, ℕ, suc, Bool, true, false, List, [], ◌∷◌, ◌++◌, Option, Some, None, Result, Ok, Err, inl, inr, refl, sym, ap, ◌∙◌, subst, codes}
use Rattle.std.specs.Prelude.{IfSome, is_some}
use Rattle.alphabet.specs.EventSets.{Set}
use Rattle.alphabet.specs.declared.events.Event.{Event}
use Rattle.term.specs.Proc.{bodies_of}
use Rattle.term.specs.Specs.{Specified}
use Rattle.session.specs.Entry.{Entry}
use Rattle.session.specs.Entries.{events}
use Rattle.session.specs.Legal.{IsJudged}
use Rattle.session.specs.Monitors.{Monitoring}
use Rattle.wire.specs.Requests.{Asks}
use Rattle.wire.specs.Replies.{Answers, tallied, TakesNoName, identified_as}
use Rattle.wire.specs.declared.answer.Answer.{Answer}
use Rattle.wire.specs.declared.answer.Answer.TheVariants as answered
use Rattle.answers.specs.declared.fault.Fault.TheVariants.{Memory}
use Rattle.wire.specs.declared.answer.Tally.{Tally}
use Rattle.wire.specs.declared.requests.Request.{Request}
use Rattle.wire.specs.declared.requests.Request.TheVariants as asked
use Rattle.attending.specs.Courses.{Course, Reports, Statuses, Nexts}
use Rattle.attending.specs.Lines.{ExplainsIf, reply_text}
use Rattle.attending.specs.Preparing.{Moves, Prepares, standing}
use Rattle.attending.specs.declared.manner.Manner.{Manner}
use Rattle.attending.specs.Standing.{course_of, unattended}

module _ (spec : Specified) where
  abbrev Goes : Course → Request → Course → Answer → Type 0
  Goes = Answers (Reports spec) Statuses (Nexts (bodies_of spec.bodies)) TakesNoName

  no_memory : (old new : Course) (request : Request) (set : Set) → Goes old request new (answered.Next set) → Goes old request new (answered.Fault Memory)
  no_memory old new (asked.Judge r) set (Ok x, reports, is) = cc
  no_memory old new (asked.Judge r) set (Err x, reports, is) = cc
  no_memory old new asked.Status set (s, told, is) = cc
  no_memory old new asked.Next set (x, nexts, is) = (x, nexts, inr refl)
  no_memory old new (asked.Identify seat) set (result, (none, same), is) = absurd (let e : answered.Next set ≡ answered.UnknownCommand = is ∙ ap (identified_as seat) none in cc)
  no_memory old new asked.Quit set (same, is) = cc
  no_memory old new asked.UnknownCommand set (same, is) = cc
  no_memory old new asked.UnknownEvent set (same, is) = cc

  -- what is replied where there may be no memory for the names of N
  pub given_as : (old new : Course) (request : Request) (answer given : Answer) → (given ≡ answer) ⊎ ((set : Set) × (answer ≡ answered.Next set) × (given ≡ answered.Fault Memory)) →
      Goes old request new answer → Goes old request new given
  given_as old new request answer given (inl same) h = subst (λ (a : Answer). Goes old request new a) (sym same) h
  given_as old new request answer given (inr (set, is, told)) h =
      subst (λ (a : Answer). Goes old request new a) (sym told) (no_memory old new request set (subst (λ (a : Answer). Goes old request new a) is h))

  -- Q changes nothing
  pub quit_tally : (old new : Course) (request : Request) (answer : Answer) (t t' : Tally) → request ≡ asked.Quit → t' ≡ tallied t answer → Goes old request new answer → t' ≡ t
  quit_tally old new request answer t t' is told h =
      let bye = subst (λ (q : Request). Goes old q new answer) is h in
      told ∙ ap (tallied t) bye.1

-- the parts of a monitor that is there
pub of_some : {A : Type 0} (o : Option A) (x : A) (P : A → Type 0) → o ≡ Some x → IfSome o P → P x
of_some {A = A} o x P is h = subst (λ (v : Option A). IfSome v P) is h

pub to_some : {A : Type 0} (o : Option A) (x : A) (P : A → Type 0) → o ≡ Some x → P x → IfSome o P
to_some {A = A} o x P is h = subst (λ (v : Option A). IfSome v P) (sym is) h

-- nothing was reported yet
pub begun_is : (h : List Entry) (f : Option Entry) (t : Tally) (l : ℕ) (w : Bool) (e : Option (List ℕ)) → h ≡ [] → f ≡ None → t ≡ record { begun = false; rejected = false; unjudged = 0; limit = false } → l ≡ 0 → w ≡ true →
    standing h f t l w e ≡ unattended e
begun_is h f t l w e h0 f0 t0 l0 w0 = λ i. record { course = record { history = h0 i; closed = is_some (f0 i) }; tally = t0 i; lines = l0 i; whole = w0 i; errors = e }

-- the same in other words
pub same_standing : (h h' : List Entry) (f f' : Option Entry) (t t' : Tally) (l l' : ℕ) (w w' : Bool) (e : Option (List ℕ)) → h ≡ h' → f ≡ f' → t ≡ t' → l ≡ l' → w ≡ w' →
    standing h f t l w e ≡ standing h' f' t' l' w' e
same_standing h h' f f' t t' l l' w w' e a b c d x = λ i. standing (a i) (b i) (c i) (d i) (x i) e

-- a monitor without events is after a history without entries
pub stands_first : (o : Option Monitoring) (spec : Specified) (h : List Entry) → h ≡ [] → IfSome o (λ m. (m.spec ≡ spec) × (m.trace ≡ [])) → IfSome o (λ m. (m.spec ≡ spec) × (m.trace ≡ events h))
stands_first None spec h none s = s
stands_first (Some m) spec h none s = (s.0, s.1 ∙ sym (ap events none))

-- what a monitor that is there stands after
pub ready_some : (o : Option Monitoring) (spec : Specified) (u : List Event) → ((m : Monitoring) → o ≡ Some m → (m.spec ≡ spec) × (m.trace ≡ u)) → IfSome o (λ m. (m.spec ≡ spec) × (m.trace ≡ u))
ready_some None spec u s = tt
ready_some (Some m) spec u s = s m refl

pub some_ready : (o : Option Monitoring) (spec : Specified) (u : List Event) → IfSome o (λ m. (m.spec ≡ spec) × (m.trace ≡ u)) → (m : Monitoring) → o ≡ Some m → (m.spec ≡ spec) × (m.trace ≡ u)
some_ready o spec u s m is = of_some o m (λ x. (x.spec ≡ spec) × (x.trace ≡ u)) is s

-- a monitor that follows another goes on in its specification
pub follows : (o n : Option Monitoring) (spec : Specified) (u v : List Event) → IfSome o (λ m. (m.spec ≡ spec) × (m.trace ≡ u)) → is_some n ≡ is_some o →
    IfSome o (λ old. IfSome n (λ new. (new.spec ≡ old.spec) × (new.trace ≡ v))) → IfSome n (λ m. (m.spec ≡ spec) × (m.trace ≡ v))
follows o None spec u v s same h = tt
follows None (Some n) spec u v s same h = cc
follows (Some m) (Some n) spec u v s same h = (h.0 ∙ s.0, h.1)

-- what a monitor of the specification needs of a line
pub judged_by : (o : Option Monitoring) (spec : Specified) (u : List Event) (h : List Entry) → IfSome o (λ m. (m.spec ≡ spec) × (m.trace ≡ u)) → IsJudged spec h → IfSome o (λ m. IsJudged m.spec h)
judged_by None spec u h s j = tt
judged_by (Some m) spec u h s j = subst (λ (x : Specified). IsJudged x h) (sym s.0) j

pub moves_by : (o : Option Monitoring) (spec : Specified) (old new : Course) (request : Request) (answer : Answer) → IfSome o (λ m. (m.spec ≡ spec) × (m.trace ≡ events old.history)) →
    Answers (Reports spec) Statuses (Nexts (bodies_of spec.bodies)) TakesNoName old request new answer → IfSome o (λ m. Moves m.spec m.trace request answer new.history)
moves_by None spec old new request answer s h = tt
moves_by (Some m) spec old new request answer s h = subst (λ (x : Specified). Moves x m.trace request answer new.history) (sym s.0) (record { old = old; new = new; stands = s.1; history_is = refl; answers = h })

pub prepares_of : (manner : Manner) (spec : Specified) (h h' : List Entry) (f f' : Option Entry) (t t' : Tally) (l l' : ℕ) (w w' : Bool) (line reply said : List ℕ) (request : Request) (given : Answer) →
    Asks spec.alphabet line request → Answers (Reports spec) Statuses (Nexts (bodies_of spec.bodies)) TakesNoName (course_of h f) request (course_of h' f') given →
    reply ≡ reply_text manner spec given → t' ≡ tallied t given → (w' ≡ true → (w ≡ true) × (l' ≡ suc l)) → (w' ≡ true → ExplainsIf manner.explain spec l' h line request given said) →
    Prepares manner spec (standing h f t l w None) line (standing h' f' t' l' w' None) reply said
prepares_of manner spec h h' f f' t t' l l' w w' line reply said request given asks answers is told counted explains = record {
  request = request;
  answer = given;
  asks = asks;
  answers = answers;
  reply_is = is;
  tally_is = told;
  whole = λ e. let k = counted e in (k.0, k.1, explains e);
}
