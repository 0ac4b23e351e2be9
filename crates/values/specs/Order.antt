-- The order of values.
use Rattle.std.proofs.Common.{◌≡◌, refl}
use Rattle.std.specs.Ordering.{ordering_reverse}
use Rattle.std.specs.Cmp.{IsTotalOrder}
use Rattle.std.proofs.lemmas.Cmp.{int_cmp_total, nat_list_cmp_total}
use Rattle.std.specs.declared.cmp.Ordering.TheVariants.{Less, Equal}
use Rattle.alphabet.specs.Channels.{FieldValue, number, constant}
use Rattle.values.specs.Values.{value_cmp}

antisymm : (x y : FieldValue) → value_cmp x y ≡ ordering_reverse (value_cmp y x)
antisymm (number y) (number z) = int_cmp_total.antisymm y z
antisymm (number y) (constant n) = refl
antisymm (constant m) (number z) = refl
antisymm (constant m) (constant n) = nat_list_cmp_total.antisymm m n

trans : (x y z : FieldValue) → value_cmp x y ≡ Less → value_cmp y z ≡ Less → value_cmp x z ≡ Less
trans (number x) (number y) (number z) a b = int_cmp_total.trans x y z a b
trans (number x) (number y) (constant z) a b = refl
trans (number x) (constant y) (number z) a b = absurd cc
trans (number x) (constant y) (constant z) a b = refl
trans (constant x) (number y) (number z) a b = absurd cc
trans (constant x) (number y) (constant z) a b = absurd cc
trans (constant x) (constant y) (number z) a b = absurd cc
trans (constant x) (constant y) (constant z) a b = nat_list_cmp_total.trans x y z a b

congr : (x y z : FieldValue) → value_cmp x y ≡ Equal → value_cmp x z ≡ value_cmp y z
congr (number x) (number y) (number z) a = int_cmp_total.congr x y z a
congr (number x) (number y) (constant z) a = refl
congr (number x) (constant y) z a = absurd cc
congr (constant x) (number y) z a = absurd cc
congr (constant x) (constant y) (number z) a = refl
congr (constant x) (constant y) (constant z) a = nat_list_cmp_total.congr x y z a

pub value_total : IsTotalOrder value_cmp
value_total = record { antisymm = antisymm; trans = trans; congr = congr }
