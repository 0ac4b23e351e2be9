-- How a run of the server ends.
use Rattle.std.proofs.Common.{◌≡◌, ℕ, Bool, Option, List, sym, subst}
use Rattle.std.specs.Prelude.{Result, Ok, Err, IfOk, IfErr}
use Rattle.term.specs.Proc.{bodies_of}
use Rattle.term.specs.Specs.{Specified}
use Rattle.term.specs.declared.names.Names.{Names}
use Rattle.connections.specs.declared.totals.Totals.{Totals}
use Rattle.program.specs.Exits.{journal_exit, kind_exit, script_exit}
use Rattle.program.specs.Servers as one
use Rattle.program.specs.Servers.{IsTold}
use Rattle.program.specs.SessionError.{SessionError}
use Rattle.program.specs.SessionError.TheVariants as error
use Rattle.program.specs.declared.served.Line.{Line}
use Rattle.program.specs.declared.served.Unserved.{Unserved}
use Rattle.program.specs.declared.served.Unserved.TheVariants.{Unopened, Shut, Memory}
use Rattle.answers.specs.declared.exit.Exit.{Exit}
use Rattle.answers.specs.declared.exit.Exit.TheVariants.{BadScript, BadJournal, Done, FileFailed, Limit, Misuse, Rejected}
use Rattle.script.specs.Reading.{IsRead}
use Rattle.serving.specs.Beginnings.{StartsWith}
use Rattle.serving.specs.Entries.{summary_of}
use Rattle.serving.specs.Entry.{Entry}
use Rattle.serving.specs.Legal.{Legal}
use Rattle.serving.specs.SessionView.{SessionView}
use Rattle.tokens.specs.declared.error.ScriptError.{ScriptError}
use Rattle.tokens.specs.declared.error.ScriptErrorKind.{ScriptErrorKind}
use Rattle.tokens.specs.declared.error.ScriptErrorKind.TheVariants as kind
use Rattle.serving.specs.declared.opening.OpenError.{OpenError}
use Rattle.serving.specs.declared.opening.OpenError.TheVariants.{Begin, Replay, OtherSpecification}
use Rattle.command_line.specs.Commands.{IsRefusal}
use Rattle.command_line.specs.Endings.{IsServedFor, IsShutFor, IsUnserved}
use Rattle.command_line.specs.Statuses.{begin_exit, open_exit}

-- a script that is refused isn't served, nor a journal that gives no session
pub script_unserved : (k : ScriptErrorKind) (other : Exit) → IsUnserved other → IsUnserved (kind_exit k other)
script_unserved kind.Memory other is = tt
script_unserved k other is = is

pub journal_unserved : (e : SessionError) → IsUnserved (journal_exit e)
journal_unserved error.Device = tt
journal_unserved error.Depth = tt
journal_unserved error.States = tt
journal_unserved error.History = tt
journal_unserved error.Memory = tt
journal_unserved (error.Script fault) = script_unserved fault.kind BadJournal tt
journal_unserved error.BadHeader = tt
journal_unserved error.Truncated = tt
journal_unserved (error.BadRecord n) = tt
journal_unserved (error.OtherVerdict n) = tt
journal_unserved (error.Part n) = tt

begin_unserved : (e : SessionError) → IsUnserved (begin_exit e)
begin_unserved error.Device = tt
begin_unserved error.Depth = tt
begin_unserved error.States = tt
begin_unserved error.History = tt
begin_unserved error.Memory = tt
begin_unserved (error.Script fault) = script_unserved fault.kind BadScript tt
begin_unserved error.BadHeader = tt
begin_unserved error.Truncated = tt
begin_unserved (error.BadRecord n) = tt
begin_unserved (error.OtherVerdict n) = tt
begin_unserved (error.Part n) = tt

pub open_unserved : (e : OpenError) → IsUnserved (open_exit e)
open_unserved (Begin e) = begin_unserved e
open_unserved (Replay e) = journal_unserved e
open_unserved OtherSpecification = tt

pub opened_unserved : (e : OpenError) (exit : Exit) → exit ≡ open_exit e → IsUnserved exit
opened_unserved e exit is = subst (λ (x : Exit). IsUnserved x) (sym is) (open_unserved e)

pub journal_failed : (e : SessionError) (exit : Exit) → exit ≡ journal_exit e → IsUnserved exit
journal_failed e exit is = subst (λ (x : Exit). IsUnserved x) (sym is) (journal_unserved e)

pub file_failed : (exit : Exit) → exit ≡ FileFailed → IsUnserved exit
file_failed exit is = subst (λ (x : Exit). IsUnserved x) (sym is) tt

pub refused_unserved : (exit : Exit) → IsRefusal exit → IsUnserved exit
refused_unserved BadScript is = tt
refused_unserved FileFailed is = tt
refused_unserved Limit is = tt
refused_unserved BadJournal is = tt
refused_unserved Done is = is
refused_unserved Rejected is = is
refused_unserved Misuse is = is

kind_refused : (k : ScriptErrorKind) → IsRefusal (kind_exit k BadScript)
kind_refused kind.Memory = tt
kind_refused k = tt

pub script_refused : (f : ScriptError) (exit : Exit) → exit ≡ script_exit f → IsRefusal exit
script_refused f exit is = subst (λ (x : Exit). IsRefusal x) (sym is) (kind_refused f.kind)

-- a door that didn't open
pub shut_for : {D J : Type 0} (is_unopened : OpenError → D → Type 0) (is_opened : SessionView J → Type 0) (u : Unserved D J) → one.IsUnserved is_unopened is_opened (λ exit. IsUnserved exit) u → IsShutFor u
shut_for is_unopened is_opened (Unopened error disk) why = tt
shut_for is_unopened is_opened (Shut exit session) why = why.0
shut_for is_unopened is_opened Memory why = tt

-- what is so of a call that went well, or of one that didn't
pub of_ok : {A B : Type 0} (P : A → Type 0) (r : Result A B) (a : A) → r ≡ Ok a → IfOk r P → P a
of_ok {A} {B} P r a is so = subst (λ (x : Result A B). IfOk x P) is so

pub of_err : {A B : Type 0} (P : B → Type 0) (r : Result A B) (b : B) → r ≡ Err b → IfErr r P → P b
of_err {A} {B} P r b is so = subst (λ (x : Result A B). IfErr x P) is so

-- a session that was served
pub served_for : (names : Names) (script root process : List ℕ) (spec : Specified) (opening history : List Entry) (line : Line) (closed : Bool) (totals : Totals) (accept_failed : Bool)
    (old new : Option (List ℕ)) (failed : Type 0) (exit status : Exit) → root ≡ process → status ≡ exit → IsRead script root spec → spec.names ≡ names → StartsWith history opening
    → Legal (bodies_of spec.bodies) history → IsTold line (summary_of history) closed totals accept_failed old new failed exit → IsServedFor names process new failed status
served_for names script root process spec opening history line closed totals accept_failed old new failed exit status same is read names_are begins legal told = record {
  script = script;
  spec = spec;
  read = subst (λ (p : List ℕ). IsRead script p spec) same read;
  names_are = names_are;
  opening = opening;
  history = history;
  begins = begins;
  legal = legal;
  line = line;
  closed = closed;
  totals = totals;
  accept_failed = accept_failed;
  old = old;
  told = subst (λ (e : Exit). IsTold line (summary_of history) closed totals accept_failed old new failed e) (sym is) told;
}
