-- What the calls of a file in memory do to what a crash may leave.
use Rattle.std.proofs.Common.{◌≡◌, inr, ⊎_elim, ℕ, Vec, ◌≤◌, List, [], ◌∷◌, ◌++◌, length, take, Result, Ok, Err, OnOk, OnErr, refl, sym, ◌∙◌, ap, subst, arith}
use Rattle.std.proofs.lemmas.List.{append-nil}
use Rattle.disk.specs.Calls.{Torn, Follows, overwritten}
use Rattle.disk.proofs.Parts.{torn_none, cut_none}
use Rattle.memory_disks.specs.declared.crash.Call.{Call}
use Rattle.memory_disks.specs.declared.crash.Call.TheVariants.{Write, Cut, Sync}
use Rattle.memory_disks.specs.Replay.{Image, after_call, replay, Reaches, Leaves, start, of_calls}
use Rattle.memory_disks.proofs.Crashing.{replay_push, torn_other, torn_wider, write_files}
use Rattle.file_disk.specs.Files.{MayLeaveStill}

reached_after : {A : Type 0} (m : Image A) (call : Call A) → Reaches m.durable m.pending m.bytes
    → Reaches (after_call m call).durable (after_call m call).pending (after_call m call).bytes
reached_after m (Write at v) here = (m.bytes, here, torn_other at (length v.items) v.items m.bytes _ (omega arith) refl)
reached_after m (Cut len) here = (m.bytes, here, record { more = []; is = sym (append-nil (take len m.bytes)) })
reached_after m Sync here = refl

-- what reads give is what a crash leaves where each call was done entirely
bytes_reached : {A : Type 0} (m : Image A) (calls : List (Call A)) → Reaches m.durable m.pending m.bytes
    → Reaches (replay m calls).durable (replay m calls).pending (replay m calls).bytes
bytes_reached m [] here = here
bytes_reached m (call ∷ calls) here = bytes_reached (after_call m call) calls (reached_after m call here)

module _ {A : Type 0} (first : List ℕ) (calls : List (Call A)) (f g : ℕ) where
  reached : (c : List ℕ) → Leaves (replay (start first) calls) c → Reaches (replay (start first) calls).durable (replay (start first) calls).pending c
  reached c left = ⊎_elim
      (λ now. subst (λ (l : List ℕ). Reaches (replay (start first) calls).durable (replay (start first) calls).pending l) (sym now) (bytes_reached (start first) calls refl))
      (λ part. part) left

  pub write_still : (at : ℕ) (v : Vec ℕ A) → MayLeaveStill (of_calls first calls f) (of_calls first (calls ++ Write at v ∷ []) g)
  write_still at v c left = subst (λ (m : Image A). Leaves m c) (sym (replay_push (start first) calls (Write at v))) (inr (c, reached c left, torn_none at (length v.items) c))

  pub cut_still : (len : ℕ) → MayLeaveStill (of_calls first calls f) (of_calls first (calls ++ Cut len ∷ []) g)
  cut_still len c left = subst (λ (m : Image A). Leaves m c) (sym (replay_push (start first) calls (Cut len))) (inr (c, reached c left, cut_none len c))

  -- a write of some of so many bytes
  pub some_files : (at n : ℕ) (v : Vec ℕ A) → length v.items ≤ n → Follows (Torn at n) (of_calls first calls f) (of_calls first (calls ++ Write at v ∷ []) g)
  some_files at n v le c left =
      let was = write_files first calls f g at v c left in
      (was.0, was.1, torn_wider at (length v.items) n was.0 c le was.2)

  pub some_part : (at n : ℕ) (v : Vec ℕ A) → length v.items ≤ n → Torn at n (replay (start first) calls).bytes (replay (start first) (calls ++ Write at v ∷ [])).bytes
  some_part at n v le = torn_other at n v.items (replay (start first) calls).bytes _ le (ap (λ (m : Image A). m.bytes) (replay_push (start first) calls (Write at v)))

-- the calls of the file give its bytes after a write, too
pub write_kept : {A T E : Type 0} (r : Result T E) (first : List ℕ) (calls now : List (Call A)) (at : ℕ) (bytes old new : List ℕ)
    → OnOk r (new ≡ overwritten at bytes old) → OnOk r ((v : Vec ℕ A) × (v.items ≡ bytes) × (now ≡ calls ++ Write at v ∷ [])) → OnErr r (new ≡ old) → OnErr r (now ≡ calls)
    → old ≡ (replay (start first) calls).bytes → new ≡ (replay (start first) now).bytes
write_kept {A} (Ok x) first calls now at bytes old new done noted same same_calls is =
    done ∙ (λ i. overwritten at (sym noted.1 i) (is i)) ∙ sym (ap (λ (m : Image A). m.bytes) (replay_push (start first) calls (Write at noted.0)))
    ∙ sym (ap (λ (l : List (Call A)). (replay (start first) l).bytes) noted.2)
write_kept {A} (Err e) first calls now at bytes old new done noted same same_calls is =
    same ∙ is ∙ sym (ap (λ (l : List (Call A)). (replay (start first) l).bytes) same_calls)
