-- Several calls of a file, one after the other.
use Rattle.std.proofs.Common.{◌≡◌, inl, inr, ⊎_elim, ℕ, ◌+◌, ◌≤◌, List, length, IsTrue, refl, ◌∙◌, ap, arith}
use Rattle.std.proofs.lemmas.List.{length-drop}
use Rattle.disk.specs.State.{DeviceState, DiskState}
use Rattle.disk.specs.Calls.{Torn, Follows, AddsNone, Elapses, Continues}
use Rattle.disk.proofs.Moments.{continues_on}
use Rattle.disk.proofs.Parts.{torn_none}
use Rattle.file_disk.specs.Files.{MayLeaveStill}
use Rattle.file_disk.proofs.Tears.{rest_of, rest_is, torn_more}

module _ {F : Type 0} (a b c : DeviceState F) where
  -- after a call that adds nothing to what a crash may leave
  elapses_after : IsTrue a.claims_files → Elapses a b → AddsNone a b → Elapses b c → Elapses a c
  elapses_after claims first adds second = record {
    later = omega (arith, first.later, second.later);
    nothing_else = λ t x le left. ⊎_elim
        (λ was. ⊎_elim (λ old. inl old) (λ now. inl (a.counts_now claims t x le (adds x now))) (first.nothing_else t x le was))
        (λ now. inr now)
        (second.nothing_else t x (omega (arith, le, first.later)) left);
    keeps = λ t x le left. second.keeps t x (omega (arith, le, first.later)) (first.keeps t x le left);
  }

  -- before a call that takes nothing from what a crash may leave
  elapses_before : Elapses a b → Elapses b c → MayLeaveStill b c → Elapses a c
  elapses_before first second still = record {
    later = omega (arith, first.later, second.later);
    nothing_else = λ t x le left. ⊎_elim
        (λ was. ⊎_elim (λ old. inl old) (λ now. inr (still x now)) (first.nothing_else t x le was))
        (λ now. inr now)
        (second.nothing_else t x (omega (arith, le, first.later)) left);
    keeps = λ t x le left. second.keeps t x (omega (arith, le, first.later)) (first.keeps t x le left);
  }

-- what reads do
pub record Reads (old new : DiskState) : Type 0 where
  pub continues : Continues old new
  pub time : IsTrue old.claims_files → Elapses old new
  pub bytes : IsTrue old.claims_bytes → new.bytes ≡ old.bytes
  pub files : IsTrue old.claims_files → AddsNone old new

pub reads_more : (a b c : DiskState) → Reads a b → Reads b c → Reads a c
reads_more a b c p q = record {
  continues = continues_on a b c p.continues q.continues;
  time = λ claims. elapses_after a b c claims (p.time claims) (p.files claims) (q.time (p.continues.files_claim ∙ claims));
  bytes = λ claims. q.bytes (p.continues.bytes_claim ∙ claims) ∙ p.bytes claims;
  files = λ claims x left. p.files claims x (q.files (p.continues.files_claim ∙ claims) x left);
}

-- what writes in a range do
pub record Writes (at n : ℕ) (old new : DiskState) : Type 0 where
  pub continues : Continues old new
  pub time : IsTrue old.claims_files → Elapses old new
  pub part : IsTrue old.claims_bytes → Torn at n old.bytes new.bytes
  pub files : IsTrue old.claims_files → Follows (Torn at n) old new

pub writes_more : (at n from m : ℕ) (a b c : DiskState) → at ≤ from → from + m ≤ at + n → Writes at n a b → Writes from m b c → (IsTrue b.claims_files → MayLeaveStill b c) → Writes at n a c
writes_more at n from m a b c le fit p q still = record {
  continues = continues_on a b c p.continues q.continues;
  time = λ claims. elapses_before a b c (p.time claims) (q.time (p.continues.files_claim ∙ claims)) (still (p.continues.files_claim ∙ claims));
  part = λ claims. torn_more at n from m a.bytes b.bytes c.bytes le fit (p.part claims) (q.part (p.continues.bytes_claim ∙ claims));
  files = λ claims x left.
      let step = q.files (p.continues.files_claim ∙ claims) x left in
      let was = p.files claims step.0 step.1 in
      (was.0, was.1, torn_more at n from m was.0 step.0 x le fit was.2 step.2);
}

pub writes_none : (at n : ℕ) (s : DiskState) → Writes at n s s
writes_none at n s = record {
  continues = record { bytes_claim = refl; files_claim = refl; counted = omega arith };
  time = λ claims. record { later = omega arith; nothing_else = λ t x le left. inl left; keeps = λ t x le left. left };
  part = λ claims. torn_none at n s.bytes;
  files = λ claims x left. (x, left, torn_none at n x);
}

-- a write of the rest of these bytes, or of some of it, where so many were written
pub writes_rest : (at d : ℕ) (bytes : List ℕ) (a b c : DiskState) → d ≤ length bytes → Writes at (length bytes) a b
    → Writes (at + d) (length (rest_of d bytes)) b c → (IsTrue b.claims_files → MayLeaveStill b c) → Writes at (length bytes) a c
writes_rest at d bytes a b c le p q still =
    let long = ap length (rest_is d bytes) in
    writes_more at (length bytes) (at + d) (length (rest_of d bytes)) a b c (omega arith) (omega (arith, long, length-drop d bytes, le)) p q still
