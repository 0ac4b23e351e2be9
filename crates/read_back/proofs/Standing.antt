-- What the names of a printed script stand for: its constants for themselves, its bodies for processes.
use Rattle.std.proofs.Common.{◌≡◌, ℕ, zero, suc, ◌<◌, ◌≤◌, ℤ, List, [], ◌∷◌, map, length, Bool, true, false, cond, Option, Some, None, refl, sym, ap, ◌∙◌}
use Rattle.alphabet.specs.Channels.{number, constant, Channel, IsAlphabet, event_count}
use Rattle.alphabet.specs.Elements.{In}
use Rattle.alphabet.specs.declared.events.Event.TheVariants.{Of as ev}
use Rattle.term.specs.Proc as procs
use Rattle.term.specs.Proc.{Proc, bodies_of}
use Rattle.term.specs.Specs.{Specified}
use Rattle.syntax.specs.declared.operator.Operator.{Operator}
use Rattle.syntax.specs.declared.operator.Operator.TheVariants as operators
use Rattle.syntax.specs.declared.form.Form.TheVariants as forms
use Rattle.syntax.specs.Grammar.{Node, Syntaxes, NoSyntax, MoreSyntax}
use Rattle.values.specs.Values.{◌>>=◌}
use Rattle.values.specs.Worths.{Worth, one, many, truth, Known, calculated, computed, is_comparison, comparison, operated, two_numbers, formed, is_lazy, worth, worths}
use Rattle.values.specs.Names.{Entry, Meaning, channel, datatype, constant_name, definition, parametric, meaning, worth_of, known_in, Stands, is_process_operator, is_process_form, is_process_by, is_process_meaning, is_process_in, is_process}
use Rattle.values.proofs.Keeps.{strict_is}
use Rattle.event_phrases.specs.Forms.{name_of, if_none, one_of, read_by, parts_by, set_form, set_phrase_of}
use Rattle.event_phrases.specs.Events.{KnownEvents, EventsStand, unless_value, event_set, events_of, events_in}
use Rattle.printing.specs.Names.{Name, constants}
use Rattle.printing.specs.Printed.{reference}
use Rattle.read_back.proofs.Trees.{phrases, tree_of_event, set_tree, pair_tree, process_tree, printed_primes, printed_entries}
use Rattle.read_back.proofs.Readable.{IsWritten}
use Rattle.read_back.proofs.Declared.{body_means, channel_means, constant_means, definition_is}

-- ---- processes stand for no value

none_bound : {X : Type 0} (o : Option X) (f : X → Option Worth) → ((x : X) → f x ≡ None) → (o >>= f) ≡ None
none_bound None f h = refl
none_bound (Some x) f h = h x

no_result : (op : Operator) → ((y z : ℤ) → calculated op y z ≡ None) → (ws : List Worth) → computed op ws ≡ None
unfolding computed
no_result op h ws = none_bound (two_numbers ws) (λ p. calculated op p.0 p.1 >>= λ z. Some (one (number z))) (λ p. ap (λ o. o >>= λ z. Some (one (number z))) (h p.0 p.1))

-- an operator that looks at all sides, is no comparison and calculates nothing
no_operated : (op : Operator) → is_comparison op ≡ false → ((y z : ℤ) → calculated op y z ≡ None) → (ws : List Worth) → formed (forms.Operation op) ws ≡ None
unfolding formed operated
no_operated op c h ws = ap (λ b. cond b (comparison op ws) (computed op ws)) c ∙ no_result op h ws

no_operation : (op : Operator) (known : Known) (ts : Syntaxes) → is_lazy (forms.Operation op) ≡ false → is_comparison op ≡ false → ((y z : ℤ) → calculated op y z ≡ None) → worth known (Node forms.Brackets (MoreSyntax (Node (forms.Operation op) ts) NoSyntax)) ≡ None
unfolding worth worths
no_operation op known ts l c h =
    ap (λ o. (o >>= λ w. Some (w ∷ [])) >>= λ ws. formed forms.Brackets ws) (strict_is known (forms.Operation op) ts l ∙ none_bound (worths known ts) (λ ws. formed (forms.Operation op) ws) (no_operated op c h))

module _ (cs : List Channel) (primes n m : ℕ) (known : Known) (free : (k : ℕ) → k < m → known (reference primes k) ≡ None) where
  no_worth : (P : Proc) → IsWritten n m P → worth known (process_tree cs primes P) ≡ None
  unfolding process_tree worth worths formed calculated is_lazy is_comparison
  no_worth procs.stop w = refl
  no_worth procs.skip w = refl
  no_worth (procs.prefix a P) w = no_operation operators.Prefix known (phrases (tree_of_event cs (ev a) ∷ process_tree cs primes P ∷ [])) refl refl (λ y z. refl)
  no_worth (procs.ext P Q) w = no_operation operators.ExternalChoice known (phrases (process_tree cs primes P ∷ process_tree cs primes Q ∷ [])) refl refl (λ y z. refl)
  no_worth (procs.int P Q) w = no_operation operators.InternalChoice known (phrases (process_tree cs primes P ∷ process_tree cs primes Q ∷ [])) refl refl (λ y z. refl)
  no_worth (procs.seq P Q) w = no_operation operators.Sequence known (phrases (process_tree cs primes P ∷ process_tree cs primes Q ∷ [])) refl refl (λ y z. refl)
  no_worth (procs.par A P Q) w = no_operation operators.Sharing known (phrases (process_tree cs primes P ∷ set_tree cs A ∷ process_tree cs primes Q ∷ [])) refl refl (λ y z. refl)
  no_worth (procs.hide A P) w = no_operation operators.Hiding known (phrases (process_tree cs primes P ∷ set_tree cs A ∷ [])) refl refl (λ y z. refl)
  no_worth (procs.ren R P) w = no_operation operators.Renaming known (phrases (process_tree cs primes P ∷ map (pair_tree cs) R)) refl refl (λ y z. refl)
  no_worth (procs.intr P Q) w = no_operation operators.Interrupt known (phrases (process_tree cs primes P ∷ process_tree cs primes Q ∷ [])) refl refl (λ y z. refl)
  no_worth (procs.name k) w = ap (λ o. (o >>= λ v. Some (v ∷ [])) >>= λ ws. formed forms.Event ws) (free k w)

no_events : {X : Type 0} (o : Option Worth) → unless_value {X = X} o None ≡ None
no_events None = refl
no_events (Some (one v)) = refl
no_events (Some (many vs)) = refl
no_events (Some (truth b)) = refl

module _ (cs : List Channel) (primes n m : ℕ) (known : Known) (sets : KnownEvents) (free : (k : ℕ) → k < m → sets (reference primes k) ≡ None) where
  no_set : (P : Proc) → IsWritten n m P → event_set cs known sets (set_phrase_of (process_tree cs primes P)) ≡ None
  unfolding process_tree event_set read_by parts_by set_form one_of if_none name_of
  no_set (procs.name k) w = ap (λ o. unless_value (known (reference primes k)) o) (free k w) ∙ no_events (known (reference primes k))
  no_set procs.stop w = refl
  no_set P w = refl

module _ (cs : List Channel) (primes n m : ℕ) (test : Name → Bool) (all : (k : ℕ) → k < m → test (reference primes k) ≡ true) where
  a_process : (P : Proc) → IsWritten n m P → is_process_by test (process_tree cs primes P) ≡ true
  unfolding process_tree is_process_by is_process_form is_process_operator
  a_process (procs.name k) w = all k w
  a_process procs.stop w = refl
  a_process P w = refl

-- ---- the names of a printed script

module _ (spec : Specified) (sound : IsAlphabet spec.alphabet) (few : length spec.bodies ≤ 65536) (written : (k : ℕ) → k < length spec.bodies → IsWritten (event_count spec.alphabet) (length spec.bodies) (bodies_of spec.bodies k)) where
  abbrev cs : List Channel
  cs = spec.alphabet

  abbrev primes : ℕ
  primes = printed_primes spec

  abbrev count : ℕ
  count = length spec.bodies

  abbrev entries : List Entry
  entries = printed_entries spec

  -- what names stand for
  abbrev pub printed_known : Known
  printed_known = known_in entries 1

  body_unknown : (j k : ℕ) → k < count → known_in entries j (reference primes k) ≡ None
  unfolding known_in worth_of
  body_unknown zero k l = refl
  body_unknown (suc j) k l =
      ap (λ o. o >>= worth_of (known_in entries j) (reference primes k)) (body_means spec sound few k l)
      ∙ no_worth cs primes (event_count cs) count (known_in entries j) (λ i a. body_unknown j i a) (bodies_of spec.bodies k) (written k l)

  pub unknown : (k : ℕ) → k < count → printed_known (reference primes k) ≡ None
  unknown k l = body_unknown 1 k l

  pub channel_unknown : (c : Channel) → In c cs → printed_known c.name ≡ None
  unfolding known_in worth_of
  channel_unknown c i = ap (λ o. o >>= worth_of (known_in entries 0) c.name) (channel_means spec sound few c i)

  pub constant_known : (n : Name) → In n (constants cs) → printed_known n ≡ Some (one (constant n))
  unfolding known_in worth_of
  constant_known n i = ap (λ o. o >>= worth_of (known_in entries 0) n) (constant_means spec sound few n i)

  steps_of : (j : ℕ) (n : Name) (o : Option Meaning) → meaning entries n ≡ o → (o >>= worth_of (known_in entries j) n) ≡ (o >>= worth_of (known_in entries 0) n)
  unfolding worth_of
  steps_of j n None e = refl
  steps_of j n (Some (channel ts)) e = refl
  steps_of j n (Some (datatype ns)) e = refl
  steps_of j n (Some constant_name) e = refl
  steps_of j n (Some (parametric xs t)) e = refl
  steps_of j n (Some (definition t)) e =
      let (k, l, a, b) = definition_is spec sound few n t e in
      let no : (i : ℕ) → worth (known_in entries i) t ≡ None = λ i. ap (worth (known_in entries i)) b ∙ no_worth cs primes (event_count cs) count (known_in entries i) (λ x y. body_unknown i x y) (bodies_of spec.bodies k) (written k l) in
      no j ∙ sym (no 0)

  no_start : (n : Name) (w : Worth) → known_in entries 0 n ≡ Some w → ⊥
  unfolding known_in
  no_start n w e = cc

  same_steps : (j : ℕ) (n : Name) → known_in entries (suc j) n ≡ printed_known n
  unfolding known_in
  same_steps j n = steps_of j n (meaning entries n) refl

  pub stands : Stands entries printed_known
  stands n w = ((λ e. (1, e)), λ p. by p.0 p.1)
    where
      by : (j : ℕ) → known_in entries j n ≡ Some w → printed_known n ≡ Some w
      by zero e = absurd (no_start n w e)
      by (suc j) e = sym (same_steps j n) ∙ e

  -- ---- sets of events

  abbrev pub no_sets : KnownEvents
  no_sets n = None

  body_no_set : (j k : ℕ) → k < count → events_in cs printed_known entries j (reference primes k) ≡ None
  unfolding events_in events_of
  body_no_set zero k l = refl
  body_no_set (suc j) k l =
      ap (λ o. o >>= events_of cs printed_known (events_in cs printed_known entries j)) (body_means spec sound few k l)
      ∙ no_set cs primes (event_count cs) count printed_known (events_in cs printed_known entries j) (λ i a. body_no_set j i a) (bodies_of spec.bodies k) (written k l)

  none_of : (j : ℕ) (n : Name) (o : Option Meaning) → meaning entries n ≡ o → (o >>= events_of cs printed_known (events_in cs printed_known entries j)) ≡ None
  unfolding events_of
  none_of j n None e = refl
  none_of j n (Some (channel ts)) e = refl
  none_of j n (Some (datatype ns)) e = refl
  none_of j n (Some constant_name) e = refl
  none_of j n (Some (parametric xs t)) e = refl
  none_of j n (Some (definition t)) e =
      let (k, l, a, b) = definition_is spec sound few n t e in
      ap (λ t. event_set cs printed_known (events_in cs printed_known entries j) (set_phrase_of t)) b
      ∙ no_set cs primes (event_count cs) count printed_known (events_in cs printed_known entries j) (λ i a. body_no_set j i a) (bodies_of spec.bodies k) (written k l)

  none_in : (j : ℕ) (n : Name) → events_in cs printed_known entries j n ≡ None
  unfolding events_in
  none_in zero n = refl
  none_in (suc j) n = none_of j n (meaning entries n) refl

  pub sets_stand : EventsStand cs printed_known entries no_sets
  sets_stand n A = ((λ e. absurd (no_some e)), λ p. absurd (no_some (sym (none_in p.0 n) ∙ p.1)))
    where
      no_some : None ≡ Some A → ⊥
      no_some e = cc

  -- ---- processes

  process_in : (j k : ℕ) → k < count → is_process_in entries j (reference primes k) ≡ true
  unfolding is_process_in is_process_meaning
  process_in zero k l = refl
  process_in (suc j) k l =
      ap (is_process_meaning (is_process_in entries j)) (body_means spec sound few k l)
      ∙ a_process cs primes (event_count cs) count (is_process_in entries j) (λ i a. process_in j i a) (bodies_of spec.bodies k) (written k l)

  pub are_processes : (k : ℕ) → k < count → is_process entries (reference primes k) ≡ true
  are_processes k l = process_in (suc (length entries)) k l
