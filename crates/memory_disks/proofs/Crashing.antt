-- What the calls of a disk that keeps its calls do to what a crash may leave.
use Rattle.std.proofs.Common.{◌≡◌, ◌⊎◌, inl, inr, ⊎_elim, ℕ, suc, zero, true, false, nat_le, if◌then◌else◌, replicate, Vec, ◌+◌, ◌-◌, ◌<◌, ◌≤◌, List, [], ◌∷◌, ◌++◌, length, take, drop, refl, sym, ◌∙◌, ap, subst, arith, append_assoc, length-append, take-append-drop}
use Rattle.std.proofs.lemmas.List.{take_all, drop_all, append-nil, length-take, length-drop, length-replicate, drop-drop, take-append-le}
use Rattle.std.proofs.Math.Seq.{take-add}
use Rattle.disk.specs.Calls.{Torn, CutShort, Follows, AddsNone, IsDurable, Elapses, overwritten}
use Rattle.memory_disks.specs.declared.crash.Call.{Call}
use Rattle.memory_disks.specs.declared.crash.Call.TheVariants.{Write, Cut, Sync}
use Rattle.disk.proofs.Parts.{torn_none, cut_none}
use Rattle.memory_disks.specs.declared.crash.Part.{Part}
use Rattle.memory_disks.specs.declared.crash.Part.TheVariants.{Nothing, Everything, FirstByte, Plus}
use Rattle.memory_disks.specs.Replay.{Image, after_call, replay, Leaves, image_at, start, of_calls}
use Rattle.memory_disks.specs.Remains.{part_of, written_in, cut_in, IsBoth}

pub replay_push : {A : Type 0} (m : Image A) (calls : List (Call A)) (call : Call A) → replay m (calls ++ call ∷ []) ≡ after_call (replay m calls) call
replay_push m [] call = refl
replay_push m (first ∷ calls) call = replay_push (after_call m first) calls call

order : (m n : ℕ) → (m ≤ n) ⊎ (n < m)
order zero n = inl (omega arith)
order (suc m) zero = inr (omega arith)
order (suc m) (suc n) = ⊎_elim (λ le. inl (omega (arith, le))) (λ lt. inr (omega (arith, lt))) (order m n)

-- a write that is whole
pub torn_done : (at : ℕ) (bytes old : List ℕ) → Torn at (length bytes) old (overwritten at bytes old)
torn_done at bytes old = elim (order (at + length bytes) (length old)) [
  | inl le ↦ record {
    over = bytes;
    more = [];
    fits = sym (length-take (length bytes) (drop at old) ∙ omega (arith, length-drop at old, le));
    is = sym (append-nil (overwritten at bytes old));
  }
  | inr lt ↦
      let n = length (take (length bytes) (drop at old)) in
      let none : drop (at + length bytes) old ≡ [] = drop_all (at + length bytes) old (omega (arith, lt)) in
      record {
        over = take n bytes;
        more = drop n bytes;
        fits = length-take n bytes ∙ omega (arith, length-take (length bytes) (drop at old));
        is = (λ i. take at old ++ sym (take-append-drop n bytes) i ++ none i) ∙ append-nil _ ∙ sym (append_assoc (take at old) (take n bytes) (drop n bytes))
            ∙ ap (λ (l : List ℕ). l ++ drop n bytes) (sym (append-nil (take at old ++ take n bytes))) ∙ (λ i. take at old ++ take n bytes ++ sym none i ++ drop n bytes);
      }
]

module _ {A : Type 0} (first : List ℕ) (calls : List (Call A)) (f g : ℕ) where
  pub elapses_same : Elapses (of_calls first calls f) (of_calls first calls g)
  elapses_same = record { later = omega arith; nothing_else = λ t c le left. inl left; keeps = λ t c le left. left }

  pub elapses_push : (call : Call A) → Elapses (of_calls first calls f) (of_calls first (calls ++ call ∷ []) g)
  elapses_push call = record {
    later = omega (arith, length-append calls (call ∷ []));
    nothing_else = λ t c le left. elim (order left.0 (length calls)) [
      | inl early ↦ inl (left.0, left.1, early, subst (λ (l : List (Call A)). Leaves (replay (start first) l) c) (take-append-le left.0 calls (call ∷ []) early) left.3)
      | inr late ↦ inr (subst (λ (l : List (Call A)). Leaves (replay (start first) l) c) (take_all left.0 (calls ++ call ∷ []) (omega (arith, late, length-append calls (call ∷ [])))) left.3)
    ];
    keeps = λ t c le left. (left.0, left.1, omega (arith, left.2, length-append calls (call ∷ [])), subst (λ (l : List (Call A)). Leaves (replay (start first) l) c) (sym (take-append-le left.0 calls (call ∷ []) left.2)) left.3);
  }

  pub write_files : (at : ℕ) (bytes : Vec ℕ A) → Follows (Torn at (length bytes.items)) (of_calls first calls f) (of_calls first (calls ++ Write at bytes ∷ []) g)
  write_files at bytes c left = go (subst (λ (m : Image A). Leaves m c) (replay_push (start first) calls (Write at bytes)) left)
    where
      go : Leaves (after_call (replay (start first) calls) (Write at bytes)) c → (d : List ℕ) × Leaves (replay (start first) calls) d × Torn at (length bytes.items) d c
      go (inl now) = ((replay (start first) calls).bytes, inl refl, subst (λ (l : List ℕ). Torn at (length bytes.items) (replay (start first) calls).bytes l) (sym now) (torn_done at bytes.items (replay (start first) calls).bytes))
      go (inr part) = (part.0, inr part.1, part.2)

  pub cut_files : (len : ℕ) → Follows (CutShort len) (of_calls first calls f) (of_calls first (calls ++ Cut len ∷ []) g)
  cut_files len c left = go (subst (λ (m : Image A). Leaves m c) (replay_push (start first) calls (Cut len)) left)
    where
      go : Leaves (after_call (replay (start first) calls) (Cut len)) c → (d : List ℕ) × Leaves (replay (start first) calls) d × CutShort len d c
      go (inl now) = ((replay (start first) calls).bytes, inl refl, record { more = []; is = now ∙ sym (append-nil (take len (replay (start first) calls).bytes)) })
      go (inr part) = (part.0, inr part.1, part.2)

  pub sync_only : (c : List ℕ) → (of_calls first (calls ++ Sync ∷ []) g).leaves c → c ≡ (replay (start first) calls).bytes
  sync_only c left = go (subst (λ (m : Image A). Leaves m c) (replay_push (start first) calls Sync) left)
    where
      go : Leaves (after_call (replay (start first) calls) Sync) c → c ≡ (replay (start first) calls).bytes
      go (inl now) = now
      go (inr now) = now

  pub sync_files : AddsNone (of_calls first calls f) (of_calls first (calls ++ Sync ∷ []) g)
  sync_files c left = inl (sync_only c left)

  pub sync_durable : IsDurable (of_calls first (calls ++ Sync ∷ []) g)
  sync_durable c left = sync_only c left ∙ sym (ap (λ (m : Image A). m.bytes) (replay_push (start first) calls Sync))

-- a write of fewer bytes is a part of one of more
pub torn_wider : (at m n : ℕ) (old new : List ℕ) → m ≤ n → Torn at m old new → Torn at n old new
torn_wider at m n old new le torn =
    let tail : List ℕ = drop (at + m) old in
    let split : take (n - m) tail ++ drop (n - m) tail ≡ tail = take-append-drop (n - m) tail in
    let rest : drop (n - m) tail ≡ drop (at + n) old = drop-drop (n - m) (at + m) old ∙ ap (λ (k : ℕ). drop k old) (omega (arith, le)) in
    let whole : new ≡ take at old ++ torn.over ++ (take (n - m) tail ++ drop (at + n) old) ++ torn.more =
    torn.is ∙ ap (λ (l : List ℕ). take at old ++ torn.over ++ l ++ torn.more) (sym split) ∙ ap (λ (l : List ℕ). take at old ++ torn.over ++ (take (n - m) tail ++ l) ++ torn.more) rest in
    record {
      over = torn.over ++ take (n - m) tail;
      more = torn.more;
      fits = length-append torn.over (take (n - m) tail)
          ∙ omega (arith, torn.fits, length-take m (drop at old), length-take (n - m) tail, length-take n (drop at old), length-drop at old, length-drop (at + m) old, le);
      is = whole ∙ ap (λ (l : List ℕ). l ++ torn.more) (sym (append_assoc (take at old ++ torn.over) (take (n - m) tail) (drop (at + n) old)))
          ∙ ap (λ (l : List ℕ). l ++ drop (at + n) old ++ torn.more) (append_assoc (take at old) torn.over (take (n - m) tail));
    }

-- a write of other bytes, not more than these
pub torn_other : (at n : ℕ) (bytes old new : List ℕ) → length bytes ≤ n → new ≡ overwritten at bytes old → Torn at n old new
torn_other at n bytes old new le is = torn_wider at (length bytes) n old new le (subst (λ (l : List ℕ). Torn at (length bytes) old l) (sym is) (torn_done at bytes old))

short_part : (part : Part) (bytes : List ℕ) → length (part_of part bytes) ≤ length bytes
short_part Nothing bytes = omega arith
short_part Everything bytes = omega arith
short_part FirstByte bytes = omega (arith, length-take 1 bytes)
short_part Plus bytes = omega (arith, length-replicate {A = ℕ} (length bytes) 43)

-- a part of a write is one that a crash may leave
pub torn_in : (part : Part) (at : ℕ) (bytes old : List ℕ) → Torn at (length bytes) old (written_in part at bytes old)
torn_in part at bytes old =
    elim (nat_le at (length old)) as (λ b. Torn at (length bytes) old (if b then overwritten at (part_of part bytes) old else old)) [
      | true ↦ torn_other at (length bytes) (part_of part bytes) old (overwritten at (part_of part bytes) old) (short_part part bytes) refl
      | false ↦ torn_none at (length bytes) old
    ]

-- and so is a part of a cut
pub short_in : (part : Part) (len : ℕ) (old : List ℕ) → CutShort len old (cut_in part len old)
short_in Nothing len old = cut_none len old
short_in Everything len old = record { more = []; is = sym (append-nil (take len old)) }
short_in FirstByte len old = record { more = take 1 (drop len old); is = take-add len 1 old }
short_in Plus len old = record { more = replicate (length old - len) 43; is = refl }

-- one call more, on the file as it reads and on what a part of its unsynced calls leaves
pub both_write : {A : Type 0} (part : Part) (m : Image A) (at : ℕ) (v : Vec ℕ A) (bytes again w w' l l' : List ℕ) → bytes ≡ v.items → again ≡ v.items → w' ≡ overwritten at bytes w → l' ≡ written_in part at again l → IsBoth part m w l → IsBoth part (after_call m (Write at v)) w' l'
both_write part m at v bytes again w w' l l' same too whole some both = record {
  reads = whole ∙ (λ i. overwritten at (same i) (both.reads i));
  reached = (l, both.reached, subst (λ (c : List ℕ). Torn at (length v.items) l c) (sym (some ∙ ap (λ (b : List ℕ). written_in part at b l) too)) (torn_in part at v.items l));
  exact = some ∙ (λ i. written_in part at (too i) (both.exact i));
}

pub both_cut : {A : Type 0} (part : Part) (m : Image A) (len : ℕ) (w w' l l' : List ℕ) → w' ≡ take len w → l' ≡ cut_in part len l → IsBoth part m w l → IsBoth part (after_call m (Cut len)) w' l'
both_cut part m len w w' l l' whole some both = record {
  reads = whole ∙ ap (λ (b : List ℕ). take len b) both.reads;
  reached = (l, both.reached, subst (λ (c : List ℕ). CutShort len l c) (sym some) (short_in part len l));
  exact = some ∙ ap (λ (b : List ℕ). cut_in part len b) both.exact;
}

pub both_sync : {A : Type 0} (part : Part) (m : Image A) (w l l' : List ℕ) → l' ≡ w → IsBoth part m w l → IsBoth part (after_call m Sync) w l'
both_sync part m w l l' same both = record { reads = both.reads; reached = same ∙ both.reads; exact = same ∙ both.reads }

-- the image after one call more
pub image_more : {A : Type 0} (first : List ℕ) (calls : List (Call A)) (i : ℕ) (call : Call A) → take (i + 1) calls ≡ take i calls ++ call ∷ [] → image_at first calls (i + 1) ≡ after_call (image_at first calls i) call
image_more {A} first calls i call more = ap (λ (l : List (Call A)). replay (start first) l) more ∙ replay_push (start first) (take i calls) call
