-- The forms of which not all parts are looked at, as the program tells them apart.
use Rattle.std.specs.Prelude.{Bool, true, false}
use Rattle.syntax.specs.declared.operator.Operator.{Operator}
use Rattle.syntax.specs.declared.operator.Operator.TheVariants as operators
use Rattle.syntax.specs.declared.form.Form.{Form}
use Rattle.syntax.specs.declared.form.Form.TheVariants as forms
use Rattle.values.specs.declared.truths.Lazy.{Lazy}
use Rattle.values.specs.declared.truths.Lazy.TheVariants as lazies

-- the operator that looks at its second side only where the first isn't this truth
abbrev pub connective : Bool → Operator
connective true = operators.Or
connective false = operators.And

-- the form that is meant
abbrev pub form_of : Lazy → Form
form_of lazies.Condition = forms.If
form_of (lazies.Connective decisive) = forms.Operation (connective decisive)
