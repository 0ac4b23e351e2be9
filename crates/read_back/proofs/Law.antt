-- What is printed reads back.
use Rattle.std.proofs.Common.{◌≡◌, ℕ, ◌+◌, ◌<◌, ◌≤◌, List, [], ◌∷◌, length, Some, true, sym, ap, ◌∙◌, subst, arith}
use Rattle.std.specs.List.{flat_map}
use Rattle.std.proofs.lemmas.List.{length-map, length-append}
use Rattle.term.specs.Specs.{Specified}
use Rattle.syntax.specs.declared.form.Form.TheVariants as forms
use Rattle.syntax.specs.Grammar.{Syntax, Called, Numeral, Node, Syntaxes}
use Rattle.syntax.specs.Script.{HasPhrase, HasTree}
use Rattle.values.specs.Names.{Entry, declared, declared_by_all}
use Rattle.declared_names.specs.LanguageNames.{has_names, have_names}
use Rattle.declarations.proofs.Meanings.{AreNamed, named}
use Rattle.declared_names.proofs.TextNames.{texts_have_names}
use Rattle.denotation.specs.Bodies.{names}
use Rattle.denotation.proofs.Reached.{keys_grow}
use Rattle.denotation.proofs.Roots.{name_root}
use Rattle.read_back.proofs.Reaching.{reached_many}
use Rattle.denotation.specs.Denotes.{Root, root_of, root_key, met, Denotes}
use Rattle.printing.specs.Names.{body_primes}
use Rattle.printing.specs.Printed.{printed, reference}
use Rattle.read_back.proofs.Trees.{named as name_tree, printed_primes, script_tree}
use Rattle.read_back.proofs.Roots.{printed_root}
use Rattle.read_back.proofs.ProperNames.{declared_proper}
use Rattle.read_back.proofs.Origins.{shown, sound}
use Rattle.read_back.proofs.Written.{reached_written}
use Rattle.read_back.proofs.Whole.{IsPrintable, has_tree, denotes}

script_named : (t : Syntax) (es : List Entry) → has_names t ≡ true → declared t ≡ Some es → (ts : Syntaxes) × (declared_by_all ts ≡ Some es) × (have_names ts ≡ true)
unfolding declared has_names
script_named (Called n) es h e = absurd cc
script_named (Numeral n) es h e = absurd cc
script_named (Node forms.Script ts) es h e = (ts, e, h)
script_named (Node f ts) es h e = absurd cc

printable : (text : List ℕ) (root : Root) (t : Syntax) (spec : Specified) → HasTree text t → Denotes t root spec → IsPrintable spec
printable text root t spec h d =
    let (ts, all, have) = script_named t d.entries (texts_have_names text t h) d.declares.named in
    let are : AreNamed d.entries = named ts d.entries all have in
    let proper = declared_proper text t d.entries h d.declares.named in
    record {
      sound = sound ts d.entries d.known all d.declares.once d.declares.stands proper are spec.alphabet d.declares.fielded d.declares.small;
      shown = shown ts d.entries d.known all d.declares.once d.declares.stands proper are spec.alphabet d.declares.fielded;
      written = reached_written (record { entries = d.entries; channels = spec.alphabet; known = d.known; sets = d.sets }) root (root_key root) d.keys d.bodies spec.bodies d.reached d.numbers;
    }

-- there is a body, that of the root
some_bodies : {t : Syntax} {spec : Specified} (root : Root) (d : Denotes t root spec) → 0 < length spec.bodies
unfolding met
some_bodies {spec = spec} root d =
    let count : length spec.bodies ≡ length d.bodies = ap length d.numbers ∙ length-map d.bodies _ in
    let many = reached_many _ (root_key root) d.keys d.bodies d.reached in
    let (rest, grown) = keys_grow (flat_map names d.bodies) (root_key root ∷ []) in
    let long : length d.keys ≡ 1 + length rest = ap length (sym d.reached.first ∙ grown) ∙ length-append (root_key root ∷ []) rest in
    omega (arith, count, many, long)

-- where some text denotes the specification, its printed form does, if it is no longer than a text may be
pub printed_reads_back : (text : List ℕ) (root : Root) (t : Syntax) (spec : Specified) → HasTree text t → Denotes t root spec → length (printed spec) ≤ 65536
    → (u : Syntax) × HasTree (printed spec) u × (v : Syntax) × HasPhrase (reference (body_primes spec.alphabet (length spec.bodies)) 0) v × Denotes u (root_of v) spec
printed_reads_back text root t spec h d fits =
    let p = printable text root t spec h d in
    (script_tree spec, has_tree t root spec d p fits, name_tree (reference (printed_primes spec) 0), printed_root spec (some_bodies root d) fits, subst (λ (r : Root). Denotes (script_tree spec) r spec) (sym (name_root (reference (printed_primes spec) 0))) (denotes t root spec d p fits))
