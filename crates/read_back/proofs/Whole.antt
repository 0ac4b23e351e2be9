-- The printed form of a specification that some script denotes is a script that denotes it.
use Rattle.std.proofs.Common.{◌≡◌, ℕ, ◌<◌, ◌≤◌, pos, negsuc, List, [], ◌∷◌, map, length, true, cond, Option, Some, None, sym, ap, ◌∙◌, subst, arith}
use Rattle.std.proofs.lemmas.List.{length-map}
use Rattle.std.specs.List.{list_all}
use Rattle.alphabet.specs.Channels.{FieldValue, number, constant, Values, Channel, IsAlphabet, event_count, is_value, is_rising, is_field}
use Rattle.alphabet.specs.Elements.{In, here, there}
use Rattle.alphabet.proofs.Lists.{all-In, and-right}
use Rattle.term.specs.Proc as procs
use Rattle.term.specs.Proc.{Proc, bodies_of}
use Rattle.term.specs.Sizes.{size}
use Rattle.term.specs.Specs.{Specified}
use Rattle.syntax.specs.Grammar.{Syntax, flat}
use Rattle.syntax.specs.Script.{HasTree}
use Rattle.values.specs.Names.{meaning}
use Rattle.values.specs.Channels.{Declares}
use Rattle.denotation.specs.Bodies.{Key, Body, numbered}
use Rattle.event_phrases.specs.Scopes.{Scope}
use Rattle.denotation.specs.Denotes.{Root, named, root_key, body_by, body_of, body_under, place, nodes, Denotes}
use Rattle.printing.specs.Names.{Name, constants}
use Rattle.printing.specs.Printed.{reference, printed}
use Rattle.read_back.proofs.Trees.{printed_primes, script_tree, printed_entries}
use Rattle.read_back.proofs.Readable.{IsGiven, IsPrintedScope, IsWritten, referred}
use Rattle.read_back.proofs.Given.{AllGiven}
use Rattle.read_back.proofs.Bodies.{body_denoted}
use Rattle.read_back.proofs.Scanned.{IsProper, AllProper}
use Rattle.read_back.proofs.Processes.{IsShownAlphabet}
use Rattle.read_back.proofs.Lines.{whole_read}
use Rattle.read_back.proofs.FittingLines.{whole_is}
use Rattle.read_back.proofs.Primes.{is_constant, of_fields}
use Rattle.read_back.proofs.Declared.{script_declared, once, no_parameters, body_means}
use Rattle.read_back.proofs.Standing.{printed_known, unknown, channel_unknown, constant_known, stands, no_sets, sets_stand, are_processes}
use Rattle.read_back.proofs.Fields.{AllFieldsGiven, printed_channels, printed_longer}
use Rattle.read_back.proofs.Reaching.{reached_many, printed_key, printed_keys, printed_bodies, printed_numbers, printed_reached}

size_some : (P : Proc) → 1 ≤ size P
size_some procs.stop = omega arith
size_some P = omega arith

some_nodes : (Ps : List Proc) → length Ps ≤ nodes Ps
unfolding nodes
some_nodes [] = omega arith
some_nodes (P ∷ Ps) = omega (arith, size_some P, some_nodes Ps)

all_proper : (ns : List Name) → ((n : Name) → In n ns → IsProper n) → AllProper ns
all_proper [] h = tt
all_proper (n ∷ ns) h = (h n here, all_proper ns (λ m i. h m (there i)))

-- What is asked of a specification that is printed: the rules of alphabets, names and numbers that have a text, and bodies that have one.
pub record IsPrintable (spec : Specified) : Type 0 where
  pub sound : IsAlphabet spec.alphabet
  pub shown : IsShownAlphabet spec.alphabet
  pub written : (k : ℕ) → k < length spec.bodies → IsWritten (event_count spec.alphabet) (length spec.bodies) (bodies_of spec.bodies k)

module _ (t : Syntax) (root : Root) (spec : Specified) (d : Denotes t root spec) (p : IsPrintable spec) (fits : length (printed spec) ≤ 65536) where
  few : length spec.bodies ≤ 65536
  few = omega (arith, some_nodes spec.bodies, d.large)

  abbrev cs : List Channel
  cs = spec.alphabet

  abbrev primes : ℕ
  primes = printed_primes spec

  abbrev scope : Scope
  scope = record { entries = printed_entries spec; channels = spec.alphabet; known = printed_known spec p.sound few p.written; sets = no_sets spec p.sound few p.written }

  value_given : (c : Channel) (vs : Values) (v : FieldValue) → In c cs → In vs c.fields → In v vs → IsGiven scope v
  value_given c vs (number (pos n)) i j k = p.shown.valued c vs (number (pos n)) i j k
  value_given c vs (number (negsuc n)) i j k = p.shown.valued c vs (number (negsuc n)) i j k
  value_given c vs (constant n) i j k = constant_known spec p.sound few p.written n (is_constant cs c vs n i j k)

  is_scope : IsPrintedScope scope primes (length spec.bodies)
  is_scope = record {
    sound = p.sound;
    apart = λ c i. channel_unknown spec p.sound few p.written c i;
    given = λ c vs v i j k. value_given c vs v i j k;
    unknown = λ k l. unknown spec p.sound few p.written k l;
    defined = λ k l. are_processes spec p.sound few p.written k l;
  }

  all_given : (c : Channel) (vs us : Values) → In c cs → In vs c.fields → ((v : FieldValue) → In v us → In v vs) → AllGiven scope us
  all_given c vs [] i j k = tt
  all_given c vs (u ∷ us) i j k = (value_given c vs u i j (k u here), all_given c vs us i j (λ v l. k v (there l)))

  fields_given : (c : Channel) (fields : List Values) → In c cs → ((vs : Values) → In vs fields → In vs c.fields) → AllFieldsGiven scope fields
  fields_given c [] i k = tt
  fields_given c (vs ∷ fields) i k =
      let j = k vs here in
      let field : is_field vs ≡ true = all-In is_field c.fields (all-In (λ c. list_all is_field c.fields) cs p.sound.fielded i) j in
      ((all_given c vs vs i j (λ v l. l), and-right (list_all is_value vs) (is_rising vs) field, omega (arith, printed_longer spec c vs i j, fits)), fields_given c fields i (λ us l. k us (there l)))

  body_there : (k : ℕ) → k < length spec.bodies → body_of scope (printed_key primes k) ≡ Some (referred primes (bodies_of spec.bodies k))
  unfolding body_of body_by
  body_there k l =
      ap (λ b. cond b (body_by scope (meaning (printed_entries spec) (reference primes k))) None) (are_processes spec p.sound few p.written k l)
      ∙ ap (body_by scope) (body_means spec p.sound few k l)
      ∙ body_denoted scope primes (length spec.bodies) is_scope (bodies_of spec.bodies k) (p.written k l)

  pub has_tree : HasTree (printed spec) (script_tree spec)
  has_tree =
      let proper = all_proper (constants cs) (λ n i. let (c, vs, j, k, l) = of_fields cs n i in p.shown.valued c vs (constant n) j k l) in
      record { tokens = flat (script_tree spec); read = whole_read spec p.shown proper few p.written fits; is = whole_is spec (λ k l. (p.written k l, d.deep k procs.stop l)) }

  abbrev given : Key → Option Body
  given = body_under root (record { entries = d.entries; channels = spec.alphabet; known = d.known; sets = d.sets })

  few_keys : length d.keys ≤ 65536
  few_keys =
      let a = reached_many given (root_key root) d.keys d.bodies d.reached in
      let b : length spec.bodies ≡ length d.bodies = ap length d.numbers ∙ length-map d.bodies (numbered (place d.keys)) in
      omega (arith, a, b, few)

  their_bodies : (k : ℕ) → k < length (map (numbered (place d.keys)) d.bodies) → body_of scope (printed_key primes k) ≡ Some (referred primes (bodies_of (map (numbered (place d.keys)) d.bodies) k))
  their_bodies = subst (λ Ps. (k : ℕ) → k < length Ps → body_of scope (printed_key primes k) ≡ Some (referred primes (bodies_of Ps k))) d.numbers body_there

  printed_declares : Declares (script_tree spec) (printed_entries spec) (printed_known spec p.sound few p.written) spec.alphabet
  printed_declares = record {
    named = script_declared spec;
    once = once spec p.sound few;
    parameters = no_parameters spec p.sound few;
    stands = stands spec p.sound few p.written;
    fielded = printed_channels scope spec (λ c i. fields_given c c.fields i (λ vs j. j));
    small = d.declares.small;
  }

  pub denotes : Denotes (script_tree spec) (named (reference primes 0)) spec
  unfolding body_under root_key
  denotes = record {
    entries = printed_entries spec;
    known = printed_known spec p.sound few p.written;
    sets = no_sets spec p.sound few p.written;
    declares = printed_declares;
    events = sets_stand spec p.sound few p.written;
    keys = printed_keys given (root_key root) d.keys d.bodies d.reached primes few_keys;
    bodies = printed_bodies given (root_key root) d.keys d.bodies d.reached primes few_keys;
    reached = printed_reached given (root_key root) d.keys d.bodies d.reached primes few_keys (body_of scope) their_bodies;
    numbers = d.numbers ∙ sym (printed_numbers given (root_key root) d.keys d.bodies d.reached primes few_keys);
    deep = d.deep;
    large = d.large;
  }
