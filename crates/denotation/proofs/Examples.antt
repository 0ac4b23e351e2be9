-- The definition at small scripts.
use Rattle.std.proofs.Common.{◌≡◌, ℕ, List, [], ◌∷◌, Option, Some, None, refl, pos}
use Rattle.alphabet.specs.Channels.{Channel, FieldValue, number}
use Rattle.syntax.specs.declared.operator.Operator.{Operator}
use Rattle.syntax.specs.declared.operator.Operator.TheVariants as operators
use Rattle.syntax.specs.declared.form.Form.{Form}
use Rattle.syntax.specs.declared.form.Form.TheVariants as forms
use Rattle.syntax.specs.Grammar.{Syntax, Called, Numeral, Node, Syntaxes, NoSyntax, MoreSyntax}
use Rattle.values.specs.Values.{Name, limited, set_of, union, fitting_set, range, numbers_from, is_among, is_same}
use Rattle.values.specs.Worths.{worth, worths, formed, operated, is_comparison, comparison, compared, are_same, truth_of, the_truth, condition, computed, negated, calculated, set_with, range_with, union_with, intersection_with, difference_with, the_only, the_number, the_value, the_set, the_two, two_numbers, set_of_all, all_values, nothing_of}
use Rattle.values.specs.Names.{Entry, declared, declared_by, declared_by_all, entries_of, listed_names, names_of, field_sets, meaning, known_in, worth_of, is_constant, is_process_in, is_process_meaning, is_process_by, is_process_form, is_process_operator}
use Rattle.values.specs.Tables.{behind}
use Rattle.values.specs.Channels.{channels_of, with_channel, fields_of}
use Rattle.event_phrases.specs.Events.{fields_named, field_value, value_within, is_in_both, combine, gives, events_in}
use Rattle.denotation.specs.Bodies.{Key, stop, prefix, name, halved_in, halved}
use Rattle.event_phrases.specs.Fitting.{against, against_input, fits_field, fitting, event_fits}
use Rattle.event_phrases.specs.Prefixes.{scopes_after, all_pass, fields_pass, has_event, at_no_fault, prefix_parts}
use Rattle.event_phrases.specs.Forms.{part_list, node_of, name_of, if_none, first_of, one_of, two_of, three_of, four_of, read_by, parts_by, field_form, field_of, event_form, combined_phrase, set_form, pair_form, sides_of}
use Rattle.event_phrases.specs.Scopes.{Scope}
use Rattle.denotation.specs.Phrases.{generators_form, generators_of, joined_phrase, replicated_phrase, operation_phrase, form_phrase, generator_form, generator_of, branches, prefixed_by, is_for_all, takes, arguments, called_with, for_each, over, join_of, none_of, all_joined, denoted}
use Rattle.denotation.specs.Denotes.{body_by, paired, called_by, body_of}

-- ---- how scripts are written here

abbrev a : Name
a = 97 ∷ []

abbrev b : Name
b = 98 ∷ []

abbrev c : Name
c = 99 ∷ []

abbrev x : Name
x = 120 ∷ []

abbrev y : Name
y = 121 ∷ []

abbrev P : Name
P = 80 ∷ []

abbrev Q : Name
Q = 81 ∷ []

abbrev parts : List Syntax → Syntaxes
parts [] = NoSyntax
parts (t ∷ ts) = MoreSyntax t (parts ts)

abbrev part_of : Form → List Syntax → Syntax
part_of f ts = Node f (parts ts)

abbrev named : Name → Syntax
named n = part_of forms.Event (Called n ∷ [])

abbrev event : Name → List Syntax → Syntax
event n ts = part_of forms.Event (Called n ∷ ts)

abbrev input : Name → Syntax
input n = part_of forms.Input (Called n ∷ [])

abbrev output : Syntax → Syntax
output t = part_of forms.Output (t ∷ [])

abbrev dot : Syntax → Syntax
dot t = part_of forms.Dotted (t ∷ [])

abbrev joined : Operator → List Syntax → Syntax
joined op ts = part_of (forms.Operation op) ts

abbrev then_does : Syntax → Syntax → Syntax
then_does e t = joined operators.Prefix (e ∷ t ∷ [])

abbrev upto : ℕ → Syntax
upto n = part_of forms.Range (Numeral 0 ∷ Numeral n ∷ [])

abbrev stops : Syntax
stops = part_of forms.Stop []

abbrev channel : Name → List Syntax → Syntax
channel n [] = part_of forms.Channels (part_of forms.Names (Called n ∷ []) ∷ [])
channel n (t ∷ ts) = part_of forms.ChannelsWithFields (part_of forms.Names (Called n ∷ []) ∷ part_of forms.FieldSets (t ∷ ts) ∷ [])

abbrev is_defined : Name → Syntax → Syntax
is_defined n t = part_of forms.Definition (Called n ∷ t ∷ [])

abbrev entries_by : Option (List Entry) → List Entry
entries_by None = []
entries_by (Some es) = es

abbrev channels_by : Option (List Channel) → List Channel
channels_by None = []
channels_by (Some cs) = cs

-- where three steps are enough for all names
abbrev scope_by : List Entry → List Channel → Scope
scope_by es cs = record { entries = es; channels = cs; known = known_in es 3; sets = events_in cs (known_in es 3) es 3 }

abbrev scope_in : List Entry → Scope
scope_in es = scope_by es (channels_by (channels_of (known_in es 3) es))

abbrev scope : List Syntax → Scope
scope ts = scope_in (entries_by (declared (part_of forms.Script ts)))

abbrev key : Name → Key
key n = (n, [])

-- ---- prefixes

-- channel c : {0..2} and the body of P
abbrev over_three : Syntax → Scope
over_three t = scope (channel c (upto 2 ∷ []) ∷ is_defined P t ∷ [])

-- c?c -> c.0 -> STOP: the input hides the channel
hidden : body_of (over_three (then_does (event c (input c ∷ [])) (then_does (event c (dot (Numeral 0) ∷ [])) stops))) (key P) ≡ None
unfolding declared declared_by declared_by_all entries_of listed_names names_of field_sets meaning known_in worth_of worth worths formed operated is_comparison the_two two_numbers the_number the_only the_value the_set limited range numbers_from channels_of with_channel fields_of is_process_in is_process_meaning is_process_by is_process_form is_process_operator fields_named is_constant against_input fits_field fitting prefix_parts has_event at_no_fault branches event_fits prefixed_by node_of name_of if_none first_of one_of two_of three_of four_of read_by parts_by form_phrase operation_phrase joined_phrase join_of denoted body_by body_of negated calculated set_with range_with union_with intersection_with difference_with event_form field_form field_of field_value value_within set_form combined_phrase gives is_in_both combine pair_form sides_of part_list
hidden = refl

-- ---- processes of a, b and c

abbrev plain : Syntax → Scope
plain t = scope (channel a [] ∷ channel b [] ∷ channel c [] ∷ is_defined P t ∷ [])

-- P = P
itself : body_of (plain (named P)) (key P) ≡ Some (name (key P))
unfolding declared declared_by declared_by_all entries_of listed_names names_of meaning known_in worth_of channels_of with_channel fields_of is_process_in is_process_meaning is_process_by node_of name_of if_none first_of one_of two_of three_of four_of read_by parts_by form_phrase operation_phrase joined_phrase join_of denoted body_by body_of worth worths formed operated is_comparison the_only negated calculated set_with range_with union_with intersection_with difference_with
itself = refl

-- ---- channels without events

-- channel c : {}.{0..1}, P = c?x!5 -> Q: the field after x isn't looked at
after_none : body_of (scope (channel c (part_of forms.EmptySet [] ∷ upto 1 ∷ []) ∷ is_defined P (then_does (event c (input x ∷ output (Numeral 5) ∷ [])) (named Q)) ∷ [])) (key P) ≡ Some stop
unfolding declared declared_by declared_by_all entries_of listed_names names_of field_sets meaning known_in worth_of worth worths formed operated is_comparison computed the_two two_numbers the_number the_only the_value the_set nothing_of limited range numbers_from is_among is_same channels_of with_channel fields_of is_process_in is_process_meaning is_process_by is_process_form is_process_operator fields_named is_constant field_of node_of name_of part_list one_of two_of if_none field_form scopes_after all_pass fields_pass has_event at_no_fault prefix_parts branches event_fits prefixed_by first_of three_of four_of read_by parts_by form_phrase operation_phrase joined_phrase join_of denoted body_by body_of halved_in halved calculated set_with range_with event_form field_value value_within set_form combined_phrase gives is_in_both combine pair_form sides_of
after_none = refl

-- ---- calls

abbrev called_all : List Name → List Syntax
called_all [] = []
called_all (x ∷ xs) = Called x ∷ called_all xs

abbrev takes_parameters : Name → List Name → Syntax → Syntax
takes_parameters n xs t = part_of forms.DefinitionWithParameters (Called n ∷ part_of forms.Names (called_all xs) ∷ t ∷ [])

abbrev numeral : ℕ → FieldValue
numeral n = number (pos n)

-- channel c : {0..2}, the body of P and Q(y) = c.y -> P
abbrev calling : Syntax → Scope
calling t = scope (channel c (upto 2 ∷ []) ∷ is_defined P t ∷ takes_parameters Q (y ∷ []) (then_does (event c (dot (named y) ∷ [])) (named P)) ∷ [])

-- the body of Q(2)
instance : body_of (calling stops) (Q, numeral 2 ∷ []) ≡ Some (prefix 2 (name (key P)))
unfolding declared declared_by declared_by_all entries_of listed_names names_of field_sets meaning known_in worth_of worth worths formed operated is_comparison the_two two_numbers the_number the_only the_value the_set the_truth limited range numbers_from set_of union fitting_set set_of_all all_values nothing_of is_among is_same channels_of with_channel fields_of is_constant is_process_in is_process_meaning is_process_by is_process_form is_process_operator fields_named field_value against against_input fits_field fitting prefix_parts has_event at_no_fault branches event_fits prefixed_by is_for_all takes arguments called_with for_each generators_form generators_of replicated_phrase generator_form generator_of none_of all_joined over node_of name_of if_none first_of one_of two_of three_of four_of read_by parts_by form_phrase operation_phrase joined_phrase join_of denoted body_by paired called_by body_of halved_in halved set_with range_with truth_of condition comparison compared are_same behind event_form field_form field_of value_within set_form combined_phrase gives is_in_both combine pair_form sides_of part_list
instance = refl
