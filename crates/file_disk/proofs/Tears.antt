-- Several writes at one place, one after the other.
use borrow.Rule.Slice.PartMut.{put_mid}
use Rattle.std.proofs.Common.{◌≡◌, ℕ, ◌+◌, ◌-◌, ◌<◌, ◌≤◌, List, ◌++◌, length, take, drop, get_or, sym, ◌∙◌, ap, arith}
use Rattle.std.proofs.lemmas.List.{same_lists, places, drop-drop, drop_at, length-take-le, length-append, length-take, length-drop, take_all, take-append-le}
use Rattle.std.proofs.lemmas.Slice.{take-put_mid_below}
use Rattle.std.proofs.Math.Seq.{take-add}
use Rattle.disk.specs.Calls.{Torn, overwritten}

-- what is outside of the range stays, and the file doesn't get shorter
pub record StaysOutside (at n : ℕ) (old new : List ℕ) : Type 0 where
  pub longer : length old ≤ length new
  pub before : (k d : ℕ) → k < length old → k < at → get_or new k d ≡ get_or old k d
  pub after : (k d : ℕ) → k < length old → at + n ≤ k → get_or new k d ≡ get_or old k d

pub outside_of : (at n : ℕ) (old new : List ℕ) → Torn at n old new → StaysOutside at n old new
outside_of at n old new torn =
    let long : length new ≡ length (take at old ++ torn.over ++ drop (at + n) old ++ torn.more) = ap length torn.is in
    let fits = torn.fits in
    record {
      longer = grind (arith, places);
      before = λ k d lt le. ap (λ (l : List ℕ). get_or l k d) torn.is ∙ grind (arith, places);
      after = λ k d lt le. ap (λ (l : List ℕ). get_or l k d) torn.is ∙ grind (arith, places);
    }

pub torn_of : (at n : ℕ) (old new : List ℕ) → StaysOutside at n old new → Torn at n old new
torn_of at n old new stays =
    let l = length (take n (drop at old)) in
    let longer = stays.longer in
    let before = stays.before in
    let after = stays.after in
    record {
      over = take l (drop at new);
      more = drop (length old) new;
      fits = grind (arith, places);
      is = same_lists _ _ (grind (arith, places)) (λ k d h. grind (arith, places));
    }

pub overwritten_more : (at m n : ℕ) (bytes old : List ℕ) → at ≤ length old → m + n ≤ length bytes
    → overwritten (at + m) (take n (drop m bytes)) (overwritten at (take m bytes) old) ≡ overwritten at (take (m + n) bytes) old
overwritten_more at m n bytes old le fit = same_lists _ _ (grind (arith, places)) (λ k d h. grind (arith, places))

-- one more within the range
pub torn_more : (at n from m : ℕ) (a b c : List ℕ) → at ≤ from → from + m ≤ at + n → Torn at n a b → Torn from m b c → Torn at n a c
torn_more at n from m a b c le fit first second =
    let p = outside_of at n a b first in
    let q = outside_of from m b c second in
    torn_of at n a c (record {
      longer = omega (arith, p.longer, q.longer);
      before = λ k d lt under. q.before k d (omega (arith, lt, p.longer)) (omega (arith, under, le)) ∙ p.before k d lt under;
      after = λ k d lt over. q.after k d (omega (arith, lt, p.longer)) (omega (arith, over, fit)) ∙ p.after k d lt over;
    })

-- a read into the rest of a buffer, of which the first so many bytes were read before
pub filled_more : (at d n k place m : ℕ) (buf new bytes : List ℕ) → m ≡ d + n → d ≤ length buf → n ≤ length new → place ≡ at + d
    → take d buf ≡ take d (drop at bytes) → take n new ≡ take n (drop place bytes) → take m (put_mid d k buf new) ≡ take m (drop at bytes)
filled_more at d n k place m buf new bytes both le fit is before now =
    let whole : List ℕ = put_mid d k buf new in
    let front : take d whole ≡ take d buf = take-put_mid_below d k buf new d (omega arith) le in
    let behind : drop d whole ≡ new ++ drop k (drop d buf) = drop_at (take d buf) (new ++ drop k (drop d buf)) d (length-take-le d buf le) in
    let there : drop place bytes ≡ drop d (drop at bytes) = ap (λ (j : ℕ). drop j bytes) is ∙ sym (drop-drop d at bytes) in
    ap (λ (j : ℕ). take j whole) both ∙ take-add d n whole
    ∙ (λ i. (front ∙ before) i ++ (ap (λ (l : List ℕ). take n l) behind ∙ take-append-le n new (drop k (drop d buf)) fit ∙ now ∙ ap (λ (l : List ℕ). take n l) there) i)
    ∙ sym (take-add d n (drop at bytes)) ∙ sym (ap (λ (j : ℕ). take j (drop at bytes)) both)

-- one that reads nothing
pub filled_still : (at d k m : ℕ) (buf new bytes : List ℕ) → m ≡ d → d ≤ length buf → take d buf ≡ take d (drop at bytes) → take m (put_mid d k buf new) ≡ take m (drop at bytes)
filled_still at d k m buf new bytes same le before =
    ap (λ (j : ℕ). take j (put_mid d k buf new)) same ∙ take-put_mid_below d k buf new d (omega arith) le ∙ before ∙ sym (ap (λ (j : ℕ). take j (drop at bytes)) same)

pub overwritten_none : (at : ℕ) (bytes old : List ℕ) → old ≡ overwritten at (take 0 bytes) old
overwritten_none at bytes old = same_lists _ _ (grind (arith, places)) (λ k d h. grind (arith, places))

-- the bytes after the first so many
abbrev pub rest_of : ℕ → List ℕ → List ℕ
rest_of d bytes = take (length bytes - d) (drop d bytes)

pub rest_is : (d : ℕ) (bytes : List ℕ) → rest_of d bytes ≡ drop d bytes
rest_is d bytes = take_all (length bytes - d) (drop d bytes) (omega (arith, length-drop d bytes))

-- a write of the next bytes behind those that were written
pub overwritten_on : (at d n m : ℕ) (bytes old mid new : List ℕ) → m ≡ d + n → at ≤ length old → d ≤ length bytes → n ≤ length (rest_of d bytes)
    → mid ≡ overwritten at (take d bytes) old → (at + d ≤ length mid → new ≡ overwritten (at + d) (take n (rest_of d bytes)) mid) → new ≡ overwritten at (take m bytes) old
overwritten_on at d n m bytes old mid new both le fit some was now =
    let long : at + d ≤ length mid = omega (
      arith,
      ap length was,
      length-append (take at old ++ take d bytes) (drop (at + length (take d bytes)) old),
      length-append (take at old) (take d bytes),
      length-take at old,
      length-take d bytes,
      le,
      fit,
    ) in
    let within : d + n ≤ length bytes = omega (arith, ap length (rest_is d bytes), length-drop d bytes, fit, some) in
    now long ∙ (λ i. overwritten (at + d) (take n (rest_is d bytes i)) (was i)) ∙ overwritten_more at d n bytes old le within
    ∙ sym (ap (λ (j : ℕ). overwritten at (take j bytes) old) both)
