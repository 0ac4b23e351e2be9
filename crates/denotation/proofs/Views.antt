-- Phrases and their parts.
use Rattle.std.proofs.Common.{◌≡◌, List, [], ◌∷◌, map, Some, None, refl, ap}
use Rattle.syntax.specs.declared.form.Form.{Form}
use Rattle.syntax.specs.declared.form.Form.TheVariants as forms
use Rattle.syntax.specs.declared.operator.Operator.{Operator}
use Rattle.syntax.specs.declared.operator.Operator.TheVariants as operators
use Rattle.syntax.specs.Parsing.{syntaxes}
use Rattle.syntax.specs.Grammar.{Syntax, MoreSyntax}
use Rattle.values.specs.Values.{◌>>=◌}
use Rattle.event_phrases.specs.Forms.{name_of, first_of}
use Rattle.denotation.specs.Phrases.{calling, renaming, operation_phrase, Part, part, written, phrase_of, form_phrase}

-- the parts themselves
pub back : (ts : List Syntax) → map (λ (t : Part). t.0) (map part ts) ≡ ts
back [] = refl
back (t ∷ ts) = ap (λ ts. t ∷ ts) (back ts)

-- a call, of its name and the parts after it
pub call_parts : (ts : List Syntax) → form_phrase forms.Call (map part ts) ≡ (first_of ts >>= λ p. name_of p.0 >>= λ n. Some (calling n p.1))
unfolding form_phrase first_of
call_parts [] = refl
call_parts (t ∷ ts) = ap (λ us. name_of t >>= λ n. Some (calling n us)) (back ts)

written_as : (ts : List Syntax) → written (map part ts) ≡ syntaxes ts
unfolding written
written_as [] = refl
written_as (t ∷ ts) = ap (λ us. MoreSyntax t us) (written_as ts)

pub renaming_parts : (ts : List Syntax) → operation_phrase operators.Renaming (map part ts) ≡ (first_of ts >>= λ p. Some (renaming (phrase_of p.0) (syntaxes p.1)))
unfolding operation_phrase first_of
renaming_parts [] = refl
renaming_parts (t ∷ ts) = ap (λ us. Some (renaming (phrase_of t) us)) (written_as ts)

-- ---- what is no phrase for a process

pub no_operation : (op : Operator) (ts : List Part) → (op ≡ operators.Prefix → ⊥) → (op ≡ operators.Sequence → ⊥) → (op ≡ operators.Interrupt → ⊥) → (op ≡ operators.ExternalChoice → ⊥) → (op ≡ operators.InternalChoice → ⊥) → (op ≡ operators.Interleaving → ⊥) → (op ≡ operators.Sharing → ⊥) → (op ≡ operators.Alphabetised → ⊥) → (op ≡ operators.Hiding → ⊥) → (op ≡ operators.Renaming → ⊥) → (op ≡ operators.Guard → ⊥) → operation_phrase op ts ≡ None
unfolding operation_phrase
no_operation operators.Prefix ts a b c d e f g h i j k = absurd (a refl)
no_operation operators.Sequence ts a b c d e f g h i j k = absurd (b refl)
no_operation operators.Interrupt ts a b c d e f g h i j k = absurd (c refl)
no_operation operators.ExternalChoice ts a b c d e f g h i j k = absurd (d refl)
no_operation operators.InternalChoice ts a b c d e f g h i j k = absurd (e refl)
no_operation operators.Interleaving ts a b c d e f g h i j k = absurd (f refl)
no_operation operators.Sharing ts a b c d e f g h i j k = absurd (g refl)
no_operation operators.Alphabetised ts a b c d e f g h i j k = absurd (h refl)
no_operation operators.Hiding ts a b c d e f g h i j k = absurd (i refl)
no_operation operators.Renaming ts a b c d e f g h i j k = absurd (j refl)
no_operation operators.Guard ts a b c d e f g h i j k = absurd (k refl)
no_operation op ts a b c d e f g h i j k = refl

pub no_form : (f : Form) (ts : List Part) → (f ≡ forms.Stop → ⊥) → (f ≡ forms.Skip → ⊥) → (f ≡ forms.Event → ⊥) → (f ≡ forms.If → ⊥) → (f ≡ forms.Brackets → ⊥) → ((op : Operator) → f ≡ forms.Operation op → ⊥) → (f ≡ forms.Call → ⊥) → (f ≡ forms.ReplicatedExternal → ⊥) → (f ≡ forms.ReplicatedInternal → ⊥) → (f ≡ forms.ReplicatedInterleaving → ⊥) → form_phrase f ts ≡ None
unfolding form_phrase
no_form forms.Stop ts a b c l d e g h i j = absurd (a refl)
no_form forms.Skip ts a b c l d e g h i j = absurd (b refl)
no_form forms.Event ts a b c l d e g h i j = absurd (c refl)
no_form forms.If ts a b c l d e g h i j = absurd (l refl)
no_form forms.Brackets ts a b c l d e g h i j = absurd (d refl)
no_form (forms.Operation op) ts a b c l d e g h i j = absurd (e op refl)
no_form forms.Call ts a b c l d e g h i j = absurd (g refl)
no_form forms.ReplicatedExternal ts a b c l d e g h i j = absurd (h refl)
no_form forms.ReplicatedInternal ts a b c l d e g h i j = absurd (i refl)
no_form forms.ReplicatedInterleaving ts a b c l d e g h i j = absurd (j refl)
no_form f ts a b c l d e g h i j = refl
