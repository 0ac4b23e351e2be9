use Rattle.std.proofs.Common.{◌≡◌, ◌∙◌, ◌⊎◌, ◌<◌, ◌^◌, ap, arith, false, inl, inr, IsTrue, length, List, refl, rules, subst, sym, true, ℕ}
use Rattle.disk.specs.Calls.{Continues}
use Rattle.disk.specs.Runs.{LeavesOnly}
use Rattle.disk.proofs.Moments.{continues_on, weaker}
use Rattle.term.specs.Specs.{Specified}
use Rattle.term.specs.declared.names.Names.TheVariants.{Bodies}
use Rattle.shared.specs.Entry.{Entry}
use Rattle.shared.specs.Records.{names_of}
use Rattle.shared.specs.SessionView.{IsRecorded}
use Rattle.large_sessions.specs.Recorder.{in_folder}
use Rattle.large_sessions.specs.Sessions.{AreReplayOf, HaveNoSession, IsStartOf}
use Rattle.large_sessions.proofs.Going.{leaves_on}
use Rattle.large_sessions.proofs.Refusing.{outside_for, refused_for}
use Rattle.serving.specs.HeldInParts.{HoldAlike}
use Rattle.serving.proofs.Openings.{read_here}
use Rattle.serving.proofs.OpeningsInParts.{at_files, bytes_last, claims_last, claims_there, files_last, header_of_start, held_last, kept_last, kept_there, leaves_alike, leaves_last, no_fault_last, on_itself, replay_at, start_of, there_of}
use Rattle.serving.proofs.opening_parts.replay_parts.Goals as goal

-- ---- the first part gives none

pub returns-in-Err : goal.returns-in-Err
returns-in-Err g c =
    let old = g.F.Folder.state c.args.folder in
    let script = c.args.script.text in
    let root = c.args.script.root in
    let o = c.in-Err.ensures in
    let Left : List (List ℕ) → Type 0 = λ files. old.leaves files ⊎ HoldAlike c.args.size old.bytes files in
    record {
      read = tt;
      begun = tt;
      kept = tt;
      size_is = tt;
      held = tt;
      fault = λ claims. (o.fault claims, inl (c.requires.there claims));
      only = λ claims spec h holds small. o.only claims script root spec h (there_of c.args.size old.bytes script root spec h (c.requires.there claims) holds).0 small;
      other = λ claims a small. inr (o.only claims a.script_there a.root_there a.spec a.history a.hold small);
      refuses = λ claims there fault has. refused_for c.args.size old.bytes fault c.in-Err.error has (o.fault claims);
      untouched = λ inside claims. o.untouched claims;
      continues = o.continues;
      cause = o.cause;
      any_moment = λ claims kept there. weaker old (g.F.Folder.state c.in-Err.folder) old.leaves Left (o.any_moment kept) (λ files left. inl left);
    }

-- ---- a part after it gives none

pub returns-in-Err-whole : goal.returns-in-Err-whole
returns-in-Err-whole g c =
    let state = g.F.Folder.state in
    let old = state c.args.folder in
    let script = c.args.script.text in
    let root = c.args.script.root in
    let p = c.in-Ok.begun in
    let first = c.in-Ok.ensures in
    let o = c.in-Err-whole.ensures.further in
    let e = c.in-Err-whole.error in
    let mid = state p.0.opened.held.folder in
    let new = state c.in-Err-whole.folder in
    let here : IsTrue old.claims_bytes → IsTrue mid.claims_bytes = λ claims. subst IsTrue (sym first.continues.bytes_claim) claims in
    let same : (a b : List ℕ) (spec : Specified) (h : List Entry) → IsTrue old.claims_bytes → AreReplayOf c.args.size old.bytes a b spec h → AreReplayOf p.0.opened.held.size mid.bytes a b spec h =
    λ a b spec h claims. at_files (λ (n : ℕ) (files : List (List ℕ)). AreReplayOf n files a b spec h) c.args.size p.0.opened.held.size old.bytes mid.bytes (sym first.is.size_is) (sym (first.untouched claims)) in
    let Left : List (List ℕ) → Type 0 = λ files. old.leaves files ⊎ HoldAlike c.args.size old.bytes files in
    record {
      read = tt;
      begun = tt;
      kept = tt;
      size_is = tt;
      held = tt;
      fault = λ claims. (
        at_files (λ (n : ℕ) (files : List (List ℕ)). HaveNoSession n files e) p.0.opened.held.size c.args.size mid.bytes old.bytes first.is.size_is (first.untouched claims) (o.fault (here claims)),
        inl (c.requires.there claims),
      );
      only = λ claims spec h holds small.
          let it = there_of c.args.size old.bytes script root spec h (c.requires.there claims) holds in
          o.only (here claims) script root spec h (same script root spec h claims it.0) small (first.only claims script root spec h it.0 small);
      other = λ claims a small.
          inr (o.only (here claims) a.script_there a.root_there a.spec a.history (same a.script_there a.root_there a.spec a.history claims a.hold) small (first.only claims a.script_there a.root_there a.spec a.history a.hold small));
      refuses = λ claims there fault has.
          refused_for c.args.size old.bytes fault e has
          (at_files (λ (n : ℕ) (files : List (List ℕ)). HaveNoSession n files e) p.0.opened.held.size c.args.size mid.bytes old.bytes first.is.size_is (first.untouched claims) (o.fault (here claims)));
      untouched = λ inside claims. o.bytes (here claims) ∙ first.untouched claims;
      continues = continues_on old mid new first.continues o.goes;
      cause = λ device. let risen = o.cause device in let counted = first.continues.counted in omega (arith, risen, counted);
      any_moment = λ claims kept there.
          let on = subst IsTrue (sym first.continues.files_claim) kept in
          weaker old new old.leaves Left (leaves_on old mid new on (first.any_moment kept) (o.moment on)) (λ files left. inl left);
    }

-- ---- a session of another script or root

pub returns-then-not-is_of : goal.returns-then-not-is_of
returns-then-not-is_of g c =
    let state = g.F.Folder.state in
    let old = state c.args.folder in
    let script = c.args.script.text in
    let root = c.args.script.root in
    let p = c.in-Ok.begun in
    let first = c.in-Ok.ensures in
    let r = c.in-Ok-whole.replaying in
    let whole = c.in-Ok-whole.ensures.further in
    let no : c.is_of.result ≡ false = search rules in
    let done = c.is_done-is_done.ensures.done.1 c.in-Ok-whole.ensures.done in
    let back = sym c.into_folder.ensures in
    let begins : (a b : List ℕ) (spec : Specified) (h : List Entry) → IsTrue old.claims_bytes → AreReplayOf c.args.size old.bytes a b spec h → length h < 2 ^ 62 → IsStartOf r a b spec h =
    λ a b spec h claims it small. start_of state old c.args.size p.0 r p.1.version p.1.script.items p.1.root.items first.is whole.alike first.continues first.untouched whole.goes whole.bytes a b spec h claims it
    (λ at. whole.only (claims_there state old c.args.size p.0 r p.1.version p.1.script.items p.1.root.items first.is whole.alike first.continues first.untouched whole.goes whole.bytes claims) a b spec h at small (first.only claims a b spec h it small)) in
    let Left : List (List ℕ) → Type 0 = λ files. old.leaves files ⊎ HoldAlike c.args.size old.bytes files in
    record {
      read = tt;
      begun = tt;
      kept = tt;
      size_is = tt;
      held = tt;
      fault = λ claims. record {
        script_there = p.1.script.items;
        root_there = p.1.root.items;
        spec = r.taken.spec;
        history = r.taken.entries;
        hold = held_last state old c.args.size p.0 r p.1.version p.1.script.items p.1.root.items first.is whole.alike first.continues first.untouched whole.goes whole.bytes r.taken.entries claims (c.is_done-is_done.ensures.hold done (claims_last state old c.args.size p.0 r p.1.version p.1.script.items p.1.root.items first.is whole.alike first.continues first.untouched whole.goes whole.bytes claims));
        other = λ same. c.is_of.ensures.other no (same.0 ∙ sym c.text-text.ensures, same.1 ∙ sym c.root-root.ensures, sym first.read.names_are ∙ ap (λ (x : Specified). x.names) (sym whole.spec_is) ∙ same.2);
      };
      only = λ claims spec h holds small.
          let it = there_of c.args.size old.bytes script root spec h (c.requires.there claims) holds in
          let s = begins script root spec h claims it.0 small in
          let same = header_of_start state old c.args.size p.0 r p.1.version p.1.script.items p.1.root.items first.is whole.alike first.continues first.untouched whole.goes whole.bytes script root spec h s in
          absurd (c.is_of.ensures.other no (same.0 ∙ sym c.text-text.ensures, same.1 ∙ sym c.root-root.ensures, sym first.read.names_are ∙ ap (λ (x : Specified). x.names) (sym whole.spec_is ∙ s.spec_is) ∙ it.1));
      other = λ claims a small. inl refl;
      refuses = λ claims there fault has. absurd (no_fault_last state old c.args.size p.0 r p.1.version p.1.script.items p.1.root.items first.is whole.alike first.continues first.untouched whole.goes whole.bytes (c.is_done-is_done.ensures.no_fault done) claims fault has);
      untouched = λ inside claims. ap (λ d. (state d).bytes) c.into_folder.ensures ∙ bytes_last state old c.args.size p.0 r p.1.version p.1.script.items p.1.root.items first.is whole.alike first.continues first.untouched whole.goes whole.bytes claims;
      continues = subst (λ d. Continues old (state d)) back (continues_on old (state p.0.opened.held.folder) (state r.opened.held.folder) first.continues whole.goes);
      cause = λ device. absurd device;
      any_moment = λ claims kept there.
          let run = leaves_last state old c.args.size p.0 r p.1.version p.1.script.items p.1.root.items first.is whole.alike first.continues first.untouched whole.goes whole.bytes kept (first.any_moment kept) (whole.moment (kept_there state old c.args.size p.0 r p.1.version p.1.script.items p.1.root.items first.is whole.alike first.continues first.untouched whole.goes whole.bytes kept)) in
          subst (λ d. LeavesOnly old (state d) Left) back (weaker old (state r.opened.held.folder) old.leaves Left run (λ files left. inl left));
    }

-- ---- the session

pub returns-in-Ok-finish : goal.returns-in-Ok-finish
returns-in-Ok-finish g c =
    let state = g.F.Folder.state in
    let old = state c.args.folder in
    let script = c.args.script.text in
    let root = c.args.script.root in
    let p = c.in-Ok.begun in
    let first = c.in-Ok.ensures in
    let r = c.in-Ok-whole.replaying in
    let whole = c.in-Ok-whole.ensures.further in
    let s = c.in-Ok-finish.session in
    let o = c.in-Ok-finish.ensures in
    let yes : c.is_of.result ≡ true = search rules in
    let same_here = c.is_of.ensures.same yes in
    let script_is = same_here.0 ∙ c.text-text.ensures in
    let root_is = same_here.1 ∙ c.root-root.ensures in
    let names_are = same_here.2 in
    let done = c.is_done-is_done.ensures.done.1 c.in-Ok-whole.ensures.done in
    let begins : (a b : List ℕ) (spec : Specified) (h : List Entry) → IsTrue old.claims_bytes → AreReplayOf c.args.size old.bytes a b spec h → length h < 2 ^ 62 → IsStartOf r a b spec h =
    λ a b spec h claims it small. start_of state old c.args.size p.0 r p.1.version p.1.script.items p.1.root.items first.is whole.alike first.continues first.untouched whole.goes whole.bytes a b spec h claims it
    (λ at. whole.only (claims_there state old c.args.size p.0 r p.1.version p.1.script.items p.1.root.items first.is whole.alike first.continues first.untouched whole.goes whole.bytes claims) a b spec h at small (first.only claims a b spec h it small)) in
    record {
      read = read_here (names_of p.1.version) Bodies p.1.script.items script p.1.root.items root p.0.taken.spec s.spec names_are script_is root_is (sym (o.begun.spec_is ∙ whole.spec_is)) first.read;
      begun = on_itself s _ _ _ o.begun;
      kept = subst (λ (b : List ℕ). IsRecorded (in_folder state) script b s) (whole.alike.root ∙ first.is.root_is ∙ root_is)
          (subst (λ (a : List ℕ). IsRecorded (in_folder state) a r.opened.held.root s) (whole.alike.script ∙ first.is.script_is ∙ script_is) o.kept);
      size_is = o.alike.size ∙ whole.alike.size ∙ first.is.size_is;
      held = λ claims.
          let stood = held_last state old c.args.size p.0 r p.1.version p.1.script.items p.1.root.items first.is whole.alike first.continues first.untouched whole.goes whole.bytes r.taken.entries claims (o.stood (claims_last state old c.args.size p.0 r p.1.version p.1.script.items p.1.root.items first.is whole.alike first.continues first.untouched whole.goes whole.bytes claims)) in
          inr (
            replay_at c.args.size old.bytes p.1.script.items script p.1.root.items root r.taken.spec s.spec r.taken.entries s.history script_is root_is (sym o.begun.spec_is) (sym o.begun.history_is) stood,
            ap (λ (x : Specified). x.names) (o.begun.spec_is ∙ whole.spec_is) ∙ first.read.names_are ∙ names_are,
          );
      fault = tt;
      only = λ claims spec h holds small.
          let it = there_of c.args.size old.bytes script root spec h (c.requires.there claims) holds in
          let t = begins script root spec h claims it.0 small in
          let there = files_last state old c.args.size p.0 r p.1.version p.1.script.items p.1.root.items first.is whole.alike first.continues first.untouched whole.goes whole.bytes (λ (n : ℕ) (files : List (List ℕ)). AreReplayOf n files script root spec h) claims it.0 in
          let all = c.is_done-is_done.ensures.all done (claims_last state old c.args.size p.0 r p.1.version p.1.script.items p.1.root.items first.is whole.alike first.continues first.untouched whole.goes whole.bytes claims) script root spec h there t in
          (o.begun.spec_is ∙ t.spec_is, o.begun.history_is ∙ sym all);
      other = λ claims a small.
          let t = begins a.script_there a.root_there a.spec a.history claims a.hold small in
          let same = header_of_start state old c.args.size p.0 r p.1.version p.1.script.items p.1.root.items first.is whole.alike first.continues first.untouched whole.goes whole.bytes a.script_there a.root_there a.spec a.history t in
          a.other (sym same.0 ∙ script_is, sym same.1 ∙ root_is, ap (λ (x : Specified). x.names) (sym t.spec_is ∙ whole.spec_is) ∙ first.read.names_are ∙ names_are);
      refuses = λ claims there fault has. no_fault_last state old c.args.size p.0 r p.1.version p.1.script.items p.1.root.items first.is whole.alike first.continues first.untouched whole.goes whole.bytes (c.is_done-is_done.ensures.no_fault done) claims fault has;
      untouched = tt;
      continues = continues_on old (state r.opened.held.folder) (state s.journal.folder) (continues_on old (state p.0.opened.held.folder) (state r.opened.held.folder) first.continues whole.goes) o.continues;
      cause = tt;
      any_moment = λ claims kept there.
          let last = claims_last state old c.args.size p.0 r p.1.version p.1.script.items p.1.root.items first.is whole.alike first.continues first.untouched whole.goes whole.bytes claims in
          let run = leaves_last state old c.args.size p.0 r p.1.version p.1.script.items p.1.root.items first.is whole.alike first.continues first.untouched whole.goes whole.bytes kept (first.any_moment kept) (whole.moment (kept_there state old c.args.size p.0 r p.1.version p.1.script.items p.1.root.items first.is whole.alike first.continues first.untouched whole.goes whole.bytes kept)) in
          leaves_alike state old c.args.size p.0 r p.1.version p.1.script.items p.1.root.items first.is whole.alike first.continues first.untouched whole.goes whole.bytes (state s.journal.folder) claims (o.stood last) run (o.any_moment last (kept_last state old c.args.size p.0 r p.1.version p.1.script.items p.1.root.items first.is whole.alike first.continues first.untouched whole.goes whole.bytes kept));
    }

-- ---- no session, though the journal gives one

pub returns : goal.returns
returns g c =
    let state = g.F.Folder.state in
    let old = state c.args.folder in
    let p = c.in-Ok.begun in
    let first = c.in-Ok.ensures in
    let r = c.in-Ok-whole.replaying in
    let whole = c.in-Ok-whole.ensures.further in
    let o = c.in-Err-finish.ensures in
    let go = continues_on old (state p.0.opened.held.folder) (state r.opened.held.folder) first.continues whole.goes in
    record {
      read = tt;
      begun = tt;
      kept = tt;
      size_is = tt;
      held = tt;
      fault = λ claims. (inl o.outside, inl (c.requires.there claims));
      only = λ claims spec h holds small. o.outside;
      other = λ claims a small. inr o.outside;
      refuses = λ claims there fault has. outside_for c.args.size old.bytes fault c.in-Err-finish.error o.outside;
      untouched = λ inside claims. absurd (inside o.outside);
      continues = continues_on old (state r.opened.held.folder) (state c.in-Err-finish.folder) go o.continues;
      cause = λ device. let risen = o.cause device in let counted = go.counted in omega (arith, risen, counted);
      any_moment = λ claims kept there.
          let last = claims_last state old c.args.size p.0 r p.1.version p.1.script.items p.1.root.items first.is whole.alike first.continues first.untouched whole.goes whole.bytes claims in
          let run = leaves_last state old c.args.size p.0 r p.1.version p.1.script.items p.1.root.items first.is whole.alike first.continues first.untouched whole.goes whole.bytes kept (first.any_moment kept) (whole.moment (kept_there state old c.args.size p.0 r p.1.version p.1.script.items p.1.root.items first.is whole.alike first.continues first.untouched whole.goes whole.bytes kept)) in
          leaves_alike state old c.args.size p.0 r p.1.version p.1.script.items p.1.root.items first.is whole.alike first.continues first.untouched whole.goes whole.bytes (state c.in-Err-finish.folder) claims (o.stood last) run (o.any_moment last (kept_last state old c.args.size p.0 r p.1.version p.1.script.items p.1.root.items first.is whole.alike first.continues first.untouched whole.goes whole.bytes kept));
    }
