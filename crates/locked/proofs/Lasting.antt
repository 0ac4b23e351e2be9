-- What stays of a session while reports are taken.
use Rattle.std.proofs.Common.{◌≡◌, ◌<◌, ℕ, Option, Some, None, Result, Ok, Err, IfErr, IfSome, OnOk, List, [], ◌++◌, length, map, take, drop, refl, sym, ap, ◌∙◌, subst, arith, append_assoc, IsTrue}
use Rattle.std.specs.Prelude.{IsSome, OnErr}
use Rattle.std.proofs.Math.Seq.{take-append_seam}
use Rattle.std.proofs.lemmas.List.{append-nil, map-append, take-append-drop, take-map}
use Rattle.std.proofs.lemmas.Option.{IfSome_then}
use Rattle.disk.specs.Calls.{Continues}
use Rattle.disk.specs.Runs.{LeavesOnly}
use Rattle.disk.proofs.Moments.{continues_on, run_more, weaker}
use Rattle.journal.specs.declared.version.Version.{Version}
use Rattle.term.specs.Specs.{Specified}
use Rattle.session.specs.Entry.{Entry}
use Rattle.session.specs.Beginnings.{StartsWith}
use Rattle.session.specs.Format.{Recorded}
use Rattle.session.specs.Legal.{IsJudged}
use Rattle.session.specs.Recorder.{HoldAlike, Recording}
use Rattle.session.specs.Records.{AreReports, Keeps, record_of, records_of}
use Rattle.session.specs.Reports.{IsReport}
use Rattle.session.specs.View.{SessionView, IsAlike, IsRecorded, entries}
use Rattle.session.specs.Faults.{ExplainsSettle, IsJournal, LeftWith}
use Rattle.session.specs.Faults.{Fault}
use Rattle.answers.specs.declared.fault.Fault.TheVariants.{Depth, States, Seats, History, Turn, Behind, Reader, Taken, Journal, Closed, Memory}
use Rattle.session.proofs.Beginnings.{begins_self, begins_trans}
use Rattle.session.proofs.Groups.{Each-front, judged_front, unmoved_settle}
use Rattle.session.proofs.Keeping.{alike_on, alike_still}
use Rattle.locked.specs.Lasting.{HoldsMore, Lasts, Remains}

-- the first of what was recorded of entries is recorded of the first of them
pub first_of_map : (f : Entry → Recorded) (l : List Entry) (first rest : List Recorded) → map f l ≡ first ++ rest → first ≡ map f (take (length first) l)
first_of_map f l first rest is = sym (ap (take (length first)) is ∙ take-append_seam first rest) ∙ take-map f (length first) l

none_some : {X : Type 0} (o : Option X) → o ≡ None → IsSome o → ⊥
none_some None is some = cc some
none_some (Some x) is some = cc is

-- what holds of each error, of a result that is one
pub of_error : {T : Type 0} (result : Result T Fault) (P : Type 0) → ((x : T) → result ≡ Ok x → ⊥) → OnErr result P → P
of_error (Ok x) P not holds = absurd (not x refl)
of_error (Err f) P not holds = holds

module _ {J : Type 0} (r : Recording J) where
  -- what a journal of a longer history holds with the first of what was offered
  more_left : (script root : List ℕ) (old : SessionView J) (spec : Specified) (h offered : List Entry) (j : J) (c : r.Content) → spec ≡ old.spec → StartsWith h old.history → HoldAlike r old.journal j
      → IsJudged spec (h ++ offered) → AreReports spec.alphabet (h ++ offered)
      → r.holds_some j script root (records_of (r.version j) spec.alphabet h) (records_of (r.version j) spec.alphabet offered) c → HoldsMore r script root old c
  more_left script root old spec h offered j c same begins alike judged reports some =
      let f = record_of (r.version j) spec.alphabet in
      let begun = r.begun j script root (map f h) (map f offered) c some in
      let first : List Recorded = begun.0 in
      let more = take (length first) offered in
      let rest = drop (length first) offered in
      let is : map f h ++ first ≡ map f (h ++ more) = ap (λ (l : List Recorded). map f h ++ l) (first_of_map f offered first begun.1 begun.2) ∙ sym (map-append f h more) in
      let whole : h ++ offered ≡ (h ++ more) ++ rest = ap (λ (l : List Entry). h ++ l) (sym (take-append-drop (length first) offered)) ∙ sym (append_assoc h more rest) in
      let there : r.holds old.journal script root (map f (h ++ more)) c = (alike.holds script root (map f (h ++ more)) c).0 (subst (λ (l : List Recorded). r.holds j script root l c) is begun.3) in
      record {
        history = h ++ more;
        begins = begins_trans old.history h (h ++ more) begins (more, refl);
        judged = subst (λ (s : Specified). IsJudged s (h ++ more)) same (judged_front spec (h ++ more) rest (subst (IsJudged spec) whole judged));
        reports = subst (λ (s : Specified). AreReports s.alphabet (h ++ more)) same (Each-front (λ before e. IsReport spec.alphabet e.report) (h ++ more) rest (subst (AreReports spec.alphabet) whole reports));
        holds = subst (λ (s : Specified). r.holds old.journal script root (records_of (r.version old.journal) s.alphabet (h ++ more)) c) same
            (subst (λ (v : Version). r.holds old.journal script root (records_of v spec.alphabet (h ++ more)) c) alike.version there);
      }

  -- a session is what it is
  pub lasts_self : (t : SessionView J) → IsJudged t.spec (entries t) → AreReports t.spec.alphabet (entries t) → Lasts r t t
  lasts_self t judged reports = record {
    spec_is = refl;
    begins = begins_self t.history;
    kept = λ script root kept. kept;
    alike = alike_still r t.journal t.journal refl;
    continues = record { bytes_claim = refl; files_claim = refl; counted = omega arith };
    cause = λ none some. absurd (none_some t.failed none some);
    any_moment = λ script root kept bytes files.
        weaker (r.state t.journal) (r.state t.journal) _ (HoldsMore r script root t) (unmoved_settle r t.journal script root t.spec.alphabet t.history t.offered t.failed kept bytes files)
        (λ c some. more_left script root t t.spec t.history t.offered t.journal c refl (begins_self t.history) (alike_still r t.journal t.journal refl) judged reports some);
  }

  -- where nothing is offered
  pub lasts_alone : (t : SessionView J) → t.offered ≡ [] → IsJudged t.spec t.history → AreReports t.spec.alphabet t.history → Lasts r t t
  lasts_alone t none judged reports =
      let whole : t.history ≡ entries t = sym (ap (λ (l : List Entry). t.history ++ l) none ∙ append-nil t.history) in
      lasts_self t (subst (IsJudged t.spec) whole judged) (subst (AreReports t.spec.alphabet) whole reports)

  -- what is offered to an open session
  pub lasts_offered : (old : SessionView J) (spec : Specified) (h offered more : List Entry) (failed : Option Entry) (j : J) → failed ≡ None → Remains r old spec h offered failed j → Remains r old spec h more failed j
  lasts_offered old spec h offered more failed j none lasts = record {
    spec_is = lasts.spec_is;
    begins = lasts.begins;
    kept = λ script root kept. subst (Keeps r j script root spec.alphabet h more) (sym none) (subst (Keeps r j script root spec.alphabet h offered) none (lasts.kept script root kept));
    alike = lasts.alike;
    continues = lasts.continues;
    cause = lasts.cause;
    any_moment = lasts.any_moment;
  }

  -- a settling closes a session only where the device fails
  cause_of : {T : Type 0} (mid now : SessionView J) (result : Result T Fault) → OnOk result ((mid.failed ≡ None) × (now.failed ≡ None)) → IfErr result (ExplainsSettle mid.failed mid.offered now.failed)
      → IfErr result (λ fault. IsJournal fault → (r.state mid.journal).failures < (r.state now.journal).failures) → mid.failed ≡ None → IsSome now.failed → (r.state mid.journal).failures < (r.state now.journal).failures
  cause_of mid now (Ok x) is_open why cause none some = absurd (none_some now.failed is_open.1 some)
  cause_of mid now (Err (Journal e)) is_open why cause none some = cause tt
  cause_of mid now (Err (Closed e)) is_open why cause none some = absurd (let bad : Some e ≡ None = sym why.0 ∙ none in cc bad)
  cause_of mid now (Err Depth) is_open why cause none some = absurd why
  cause_of mid now (Err States) is_open why cause none some = absurd why
  cause_of mid now (Err Seats) is_open why cause none some = absurd why
  cause_of mid now (Err Reader) is_open why cause none some = absurd why
  cause_of mid now (Err Taken) is_open why cause none some = absurd why
  cause_of mid now (Err History) is_open why cause none some = absurd why
  cause_of mid now (Err Turn) is_open why cause none some = absurd why
  cause_of mid now (Err Behind) is_open why cause none some = absurd why
  cause_of mid now (Err Memory) is_open why cause none some = absurd why

  longer_by : {T : Type 0} (mid now : SessionView J) (result : Result T Fault) → OnOk result (now.history ≡ mid.history ++ mid.offered) → OnErr result ((now.history ≡ mid.history) × (now.offered ≡ mid.offered)) → StartsWith now.history mid.history
  longer_by mid now (Ok x) appended stays = (mid.offered, appended)
  longer_by mid now (Err f) appended stays = ([], stays.0 ∙ sym (append-nil mid.history))

  -- the device has failed at some time, if that closed the session
  either : (old mid now : SessionView J) (failed : Option Entry) → mid.failed ≡ failed → (IsSome mid.failed → (r.state old.journal).failures < (r.state mid.journal).failures)
      → (mid.failed ≡ None → (r.state mid.journal).failures < (r.state now.journal).failures) → Continues (r.state old.journal) (r.state mid.journal) → Continues (r.state mid.journal) (r.state now.journal)
      → (r.state old.journal).failures < (r.state now.journal).failures
  either old mid now None is before here first second = let less = here is in let on = first.counted in omega (arith, less, on)
  either old mid now (Some e) is before here first second = let less = before (subst IsSome (sym is) refl) in let on = second.counted in omega (arith, less, on)

  -- what a settling leaves
  pub lasts_settled : {T : Type 0} (old mid now : SessionView J) (result : Result T Fault) → IsJudged mid.spec (entries mid) → AreReports mid.spec.alphabet (entries mid) → now.spec ≡ mid.spec
      → OnOk result (now.history ≡ mid.history ++ mid.offered) → OnErr result ((now.history ≡ mid.history) × (now.offered ≡ mid.offered)) → OnOk result ((mid.failed ≡ None) × (now.failed ≡ None))
      → IfErr result (ExplainsSettle mid.failed mid.offered now.failed) → IfErr result (λ fault. IsJournal fault → (r.state mid.journal).failures < (r.state now.journal).failures)
      → Continues (r.state mid.journal) (r.state now.journal) → HoldAlike r mid.journal now.journal
      → ((script root : List ℕ) → IsRecorded r script root mid → IsRecorded r script root now)
      → ((script root : List ℕ) → IsRecorded r script root mid → IsTrue (r.state mid.journal).claims_bytes → IsTrue (r.state mid.journal).claims_files
      → LeavesOnly (r.state mid.journal) (r.state now.journal) (LeftWith r script root mid mid.offered))
      → Lasts r old mid → Lasts r old now
  lasts_settled old mid now result judged reports spec appended stays is_open why cause continues alike kept any_moment lasts = record {
    spec_is = spec ∙ lasts.spec_is;
    begins = begins_trans old.history mid.history now.history lasts.begins (longer_by mid now result appended stays);
    kept = λ script root was. kept script root (lasts.kept script root was);
    alike = alike_on r old.journal mid.journal now.journal lasts.alike alike;
    continues = continues_on (r.state old.journal) (r.state mid.journal) (r.state now.journal) lasts.continues continues;
    cause = λ none some. either old mid now mid.failed refl (lasts.cause none) (λ open_before. cause_of mid now result is_open why cause open_before some) lasts.continues continues;
    any_moment = λ script root was bytes files.
        let b : IsTrue (r.state mid.journal).claims_bytes = subst IsTrue (sym lasts.continues.bytes_claim) bytes in
        let f : IsTrue (r.state mid.journal).claims_files = subst IsTrue (sym lasts.continues.files_claim) files in
        run_more (r.state old.journal) (r.state mid.journal) (r.state now.journal) (HoldsMore r script root old) (lasts.any_moment script root was bytes files)
        (weaker (r.state mid.journal) (r.state now.journal) (LeftWith r script root mid mid.offered) (HoldsMore r script root old) (any_moment script root (lasts.kept script root was) b f)
        (λ c some. more_left script root old mid.spec mid.history mid.offered mid.journal c lasts.spec_is lasts.begins lasts.alike judged reports some));
  }

  -- ---- of a session that is told, if one is

  abbrev pub Since : Option (SessionView J) → SessionView J → Type 0
  Since told t = IfSome told (λ before. Lasts r before t)

  pub since_itself : (told : Option (SessionView J)) (t : SessionView J) → IfSome told (λ before. before ≡ t) → t.offered ≡ [] → IsJudged t.spec t.history → AreReports t.spec.alphabet t.history → Since told t
  since_itself told t is none judged reports = IfSome_then told is (λ before same. subst (λ (b : SessionView J). Lasts r b t) (sym same) (lasts_alone t none judged reports))

  pub since_given : (told : Option (SessionView J)) (t now : SessionView J) → now ≡ record t { given = now.given } → Since told t → Since told now
  since_given told t now is since = subst (λ (x : SessionView J). Since told x) (sym is) since

  pub since_gone : (told : Option (SessionView J)) (t now : SessionView J) → now ≡ record t { gone = now.gone; room = now.room } → Since told t → Since told now
  since_gone told t now is since = subst (λ (x : SessionView J). Since told x) (sym is) since

  -- the same specification, history, fault and journal
  pub since_alike : (told : Option (SessionView J)) (t now : SessionView J) → IsAlike t now → now.offered ≡ t.offered → Since told t → Since told now
  since_alike told t now alike same since =
      IfSome_then told since
      (λ before lasts. subst (λ (j : J). Remains r before now.spec now.history now.offered now.failed j) (sym alike.journal)
      (subst (λ (f : Option Entry). Remains r before now.spec now.history now.offered f t.journal) (sym alike.failed)
      (subst (λ (l : List Entry). Remains r before now.spec now.history l t.failed t.journal) (sym same)
      (subst (λ (h : List Entry). Remains r before now.spec h t.offered t.failed t.journal) (sym alike.history)
      (subst (λ (s : Specified). Remains r before s t.history t.offered t.failed t.journal) (sym alike.spec) lasts)))))

  pub since_offered : (told : Option (SessionView J)) (t now : SessionView J) → IsAlike t now → t.failed ≡ None → Since told t → Since told now
  since_offered told t now alike none since =
      IfSome_then told since
      (λ before lasts. subst (λ (j : J). Remains r before now.spec now.history now.offered now.failed j) (sym alike.journal)
      (subst (λ (f : Option Entry). Remains r before now.spec now.history now.offered f t.journal) (sym alike.failed)
      (subst (λ (h : List Entry). Remains r before now.spec h now.offered t.failed t.journal) (sym alike.history)
      (subst (λ (s : Specified). Remains r before s t.history now.offered t.failed t.journal) (sym alike.spec)
      (lasts_offered before t.spec t.history t.offered now.offered t.failed t.journal none lasts)))))

  pub since_settled : {T : Type 0} (told : Option (SessionView J)) (mid now : SessionView J) (result : Result T Fault) → IsJudged mid.spec (entries mid) → AreReports mid.spec.alphabet (entries mid) → now.spec ≡ mid.spec
      → OnOk result (now.history ≡ mid.history ++ mid.offered) → OnErr result ((now.history ≡ mid.history) × (now.offered ≡ mid.offered)) → OnOk result ((mid.failed ≡ None) × (now.failed ≡ None))
      → IfErr result (ExplainsSettle mid.failed mid.offered now.failed) → IfErr result (λ fault. IsJournal fault → (r.state mid.journal).failures < (r.state now.journal).failures)
      → Continues (r.state mid.journal) (r.state now.journal) → HoldAlike r mid.journal now.journal
      → ((script root : List ℕ) → IsRecorded r script root mid → IsRecorded r script root now)
      → ((script root : List ℕ) → IsRecorded r script root mid → IsTrue (r.state mid.journal).claims_bytes → IsTrue (r.state mid.journal).claims_files
      → LeavesOnly (r.state mid.journal) (r.state now.journal) (LeftWith r script root mid mid.offered))
      → Since told mid → Since told now
  since_settled told mid now result judged reports spec appended stays is_open why cause continues alike kept any_moment since =
      IfSome_then told since (λ before lasts. lasts_settled before mid now result judged reports spec appended stays is_open why cause continues alike kept any_moment lasts)
