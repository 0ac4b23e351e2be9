-- The text of a body stands for this body.
use Rattle.std.proofs.Common.{◌≡◌, ℕ, [], ◌∷◌, map, cond, Option, Some, None, refl, ap, ◌∙◌, arith}
use Rattle.alphabet.specs.Channels.{event_count}
use Rattle.term.specs.Proc as procs
use Rattle.term.specs.Proc.{Proc}
use Rattle.term.specs.Traces.{Pairs}
use Rattle.syntax.specs.Grammar.{Syntaxes, NoSyntax, MoreSyntax}
use Rattle.values.specs.Values.{◌>>=◌}
use Rattle.values.specs.Names.{is_process}
use Rattle.event_phrases.specs.Events.{unless_value, pairs_of, set_of, masked}
use Rattle.event_phrases.specs.Forms.{name_of, if_none, one_of, two_of, three_of, first_of, read_by, parts_by}
use Rattle.denotation.specs.Bodies.{Body, prefix, ext, int, seq, par, hide, ren, intr, name}
use Rattle.event_phrases.specs.Scopes.{Scope, events_by}
use Rattle.denotation.specs.declared.draft.Joint.TheVariants as joints
use Rattle.denotation.specs.declared.draft.Operation.TheVariants as operations
use Rattle.denotation.specs.Phrases.{with_set, other, written, phrase_of, form_phrase, operation_phrase, joined_phrase, join_of, joint_of, operation_of, composed, renamed, denoted}
use Rattle.printing.specs.Printed.{reference}
use Rattle.read_back.proofs.Trees.{phrases, pair_tree, set_tree, process_tree}
use Rattle.read_back.proofs.Readable.{IsPrintedScope, IsRenaming, IsWritten, referred}
use Rattle.read_back.proofs.Prefixes.{prefix_denoted}
use Rattle.read_back.proofs.Sets.{set_denoted}
use Rattle.read_back.proofs.Pairs.{pairs_given}

two_parts : (f : Body → Body → Body) (o p : Option Body) (x y : Body) → o ≡ Some x → p ≡ Some y → (o >>= λ x. p >>= λ y. Some (f x y)) ≡ Some (f x y)
two_parts f o p x y e g = ap (λ u. u >>= λ x. p >>= λ y. Some (f x y)) e ∙ ap (λ u. u >>= λ y. Some (f x y)) g

renamed_is : (n : ℕ) (R : Pairs) (p : Body) → IsRenaming n R → renamed n R p ≡ ren R p
unfolding renamed
renamed_is n [] p h = absurd (omega (arith, h.some))
renamed_is n (r ∷ R) p h = ap (λ S. ren S p) h.ordered

-- the parts as they are written
parts_back : (ts : Syntaxes) → written (parts_by form_phrase other ts) ≡ ts
unfolding parts_by written
parts_back NoSyntax = refl
parts_back (MoreSyntax t ts) = ap (λ us. MoreSyntax t us) (parts_back ts)

module _ (s : Scope) (primes m : ℕ) (h : IsPrintedScope s primes m) where
  -- what the text of a process denotes
  abbrev means : Proc → Option Body
  means P = denoted (phrase_of (process_tree s.channels primes P)) s

  pub body_denoted : (P : Proc) → IsWritten (event_count s.channels) m P → means P ≡ Some (referred primes P)
  unfolding process_tree read_by parts_by form_phrase operation_phrase joined_phrase name_of if_none one_of two_of three_of first_of join_of joint_of operation_of composed denoted masked
  body_denoted procs.stop w = refl
  body_denoted procs.skip w = refl
  body_denoted (procs.prefix a P) w =
      prefix_denoted s primes m h a w.0 (denoted (phrase_of (process_tree s.channels primes P))) ∙ ap (λ o. o >>= λ q. Some (prefix a q)) (body_denoted P w.1)
  body_denoted (procs.ext P Q) w = two_parts ext (means P) (means Q) _ _ (body_denoted P w.0) (body_denoted Q w.1)
  body_denoted (procs.int P Q) w = two_parts int (means P) (means Q) _ _ (body_denoted P w.0) (body_denoted Q w.1)
  body_denoted (procs.seq P Q) w = two_parts seq (means P) (means Q) _ _ (body_denoted P w.0) (body_denoted Q w.1)
  body_denoted (procs.intr P Q) w = two_parts intr (means P) (means Q) _ _ (body_denoted P w.0) (body_denoted Q w.1)
  body_denoted (procs.par A P Q) w =
      let r = set_denoted s primes m h A w.0 in
      let p = referred primes P in
      let q = referred primes Q in
      ap (λ o. o >>= λ p. operation_of s (with_set (set_tree s.channels A)) >>= λ k. means Q >>= λ q. Some (composed s k p q)) (body_denoted P w.1)
      ∙ ap (λ o. (masked s.channels o >>= λ A. Some (operations.Joint (joints.Sharing A))) >>= λ k. means Q >>= λ q. Some (composed s k p q)) r.1
      ∙ ap (λ o. o >>= λ q. Some (par (set_of s.channels r.0) p q)) (body_denoted Q w.2)
      ∙ ap (λ A. Some (par A p q)) r.2
  body_denoted (procs.hide A P) w =
      let r = set_denoted s primes m h A w.0 in
      let p = referred primes P in
      ap (λ o. o >>= λ p. masked s.channels (events_by s (set_tree s.channels A)) >>= λ A. Some (hide A p)) (body_denoted P w.1)
      ∙ ap (λ o. masked s.channels o >>= λ A. Some (hide A p)) r.1
      ∙ ap (λ A. Some (hide A p)) r.2
  body_denoted (procs.ren R P) w =
      let p = referred primes P in
      let ts = phrases (map (pair_tree s.channels) R) in
      ap (λ o. o >>= λ p. pairs_of s.channels s.known (written (parts_by form_phrase other ts)) >>= λ R. Some (renamed (event_count s.channels) R p)) (body_denoted P w.1)
      ∙ ap (λ us. pairs_of s.channels s.known us >>= λ R. Some (renamed (event_count s.channels) R p)) (parts_back ts)
      ∙ ap (λ o. o >>= λ R. Some (renamed (event_count s.channels) R p)) (pairs_given s primes m h R w.0.lies)
      ∙ ap (λ b. Some b) (renamed_is (event_count s.channels) R p w.0)
  body_denoted (procs.name k) w =
      ap (λ o. unless_value o (cond (is_process s.entries (reference primes k)) (Some (name (reference primes k, []))) None)) (h.unknown k w)
      ∙ ap (λ b. cond b (Some (name (reference primes k, []))) None) (h.defined k w)
