-- A conversation that is attended line by line, piece after piece.
use Rattle.std.proofs.Common.{◌≡◌, ◌≢◌, ◌∙◌, ◌<◌, ◌≤◌, ◌+◌, ℕ, suc, List, [], ◌∷◌, ◌++◌, length, take, drop, Bool, true, false, Option, Some, None, Result, Ok, Err, refl, sym, ap, subst, append_assoc, inl, inr, ◌⊎◌, codes}
use Rattle.std.proofs.lemmas.List.{append-nil, take-append-drop}
use Rattle.std.specs.List.{AllByRecursion}
use Rattle.std.specs.Result.{OnOk, OnErr}
use Rattle.std.specs.Io.KnownBytes.{Appends, Consumes}
use Rattle.term.specs.Specs.{Specified}
use Rattle.session.specs.Entry.{Entry}
use Rattle.wire.specs.Requests.{Lacks}
use Rattle.wire.specs.Talks.{joined, IsHeard, IsShort, Talk, Open, HasQuit, IsCutOff, Hears, Conversation}
use Rattle.wire.specs.declared.answer.Tally.{Tally}
use Rattle.wire.specs.declared.engine.End.{End}
use Rattle.wire.specs.declared.engine.End.TheVariants.{Quit, Input, Line}
use Rattle.wire.specs.declared.engine.WireError.{WireError}
use Rattle.wire.specs.declared.engine.WireError.TheVariants.{Read, Write, Memory}
use Rattle.wire.proofs.KnownLemmas.{appends_more, appends_same}
use Rattle.wire.proofs.TalkLemmas.{all_append, heard_more, talk_more, talk_one, open_line, has_quit, hears_long, hears_then, hears_out, open_then, serves_end, serves_err}
use Rattle.attending.specs.Standing.{Standing, course_of}
use Rattle.attending.specs.Lines.{Attends}
use Rattle.attending.specs.Attendances.{IsStopped, Listens, Attendance}
use Rattle.attending.specs.Preparing.{GoesOn, Prepares, standing}
use Rattle.attending.specs.declared.manner.Manner.{Manner}
use Rattle.attending.specs.declared.manner.Ending.{Ending}
use Rattle.attending.specs.declared.manner.Ending.TheVariants.{By, Rejected}

-- a line that was prepared, and of which what is to be written on the errors was written, or nothing counts any more
pub attends_of : (manner : Manner) (spec : Specified) (h h' : List Entry) (f f' : Option Entry) (t t' : Tally) (l l' : ℕ) (w w' v : Bool) (before after : Option (List ℕ)) (line reply said : List ℕ)
    → Prepares manner spec (standing h f t l w None) line (standing h' f' t' l' w' None) reply said
    → (v ≡ true → (w' ≡ true) × Appends before after said)
    → Attends manner spec (standing h f t l w before) line (standing h' f' t' l' v after) reply
attends_of manner spec h h' f f' t t' l l' w w' v before after line reply said p written = record {
  request = p.request;
  answer = p.answer;
  asks = p.asks;
  answers = p.answers;
  text_is = p.reply_is;
  tally_is = p.tally_is;
  writes = λ is. let k = written is in let q = p.whole k.0 in record { whole = q.0; counted = q.1; text = said; explains = q.2; written = k.1 };
}

-- whether the line is a Q
pub kind_of : (q : Bool) (A B X : Type 0) → (q ≡ true → B × X) → (q ≡ false → A) → A ⊎ B
kind_of true A B X f g = inr (f refl).0
kind_of false A B X f g = inl (g refl)

module _ (manner : Manner) (spec : Specified) where
  abbrev Says : Standing → List ℕ → Standing → List ℕ → Type 0
  Says = Attends manner spec

  -- the reply to a line didn't go out whole
  pub cut_line : (j k : Standing) (old new : Option (List ℕ)) (line text : List ℕ) (n : ℕ) → IsShort line → (line ≢ codes "Q") ⊎ (line ≡ codes "Q") →
      Says j line k text → Appends old new (take n text) → IsCutOff Says j k old new (line ++ 10 ∷ [])
  cut_line j k old new line text n short kind says sent = (
    line ∷ [],
    text,
    take n text,
    drop n text,
    [],
    talk_one Says j k line text says,
    sent,
    inl (
      elim kind [
        | inl other ↦ inl ((short, other), tt)
        | inr quit ↦ inr ([], ap (λ v. v ∷ []) quit, tt)
      ],
      sym (take-append-drop n text),
      sym (append-nil (line ++ 10 ∷ [])),
    ),
  )

  -- a line whose report is the first that was rejected
  pub stopped_line : (j k : Standing) (old new : Option (List ℕ)) (line text : List ℕ) → IsShort line → line ≢ codes "Q" → j.tally.rejected ≡ false → k.tally.rejected ≡ true →
      Says j line k text → Appends old new text → IsStopped manner spec j k old new (line ++ 10 ∷ [])
  stopped_line j k old new line text short other none rejected says sent = record {
    lines = [];
    mid = j;
    text = [];
    talk = (refl, refl);
    none = none;
    last = line;
    reply = text;
    attends = says;
    rejected = rejected;
    all = ((short, other), tt);
    unused = [];
    heard_is = sym (append-nil (line ++ 10 ∷ []));
    sent = sent;
  }

  pub stopped_then : (j i k : Standing) (old mid new : Option (List ℕ)) (h b g : List ℕ) → Open Says j i old mid h b → IsStopped manner spec i k mid new (b ++ g) → IsStopped manner spec j k old new (h ++ g)
  stopped_then j i k old mid new h b g (l, s, talk, all, is, begun, sent) r =
      let last = r.last ∷ [] in record {
        lines = l ++ r.lines;
        mid = r.mid;
        text = s ++ r.text;
        talk = talk_more Says l r.lines j i r.mid s r.text talk r.talk;
        none = r.none;
        last = r.last;
        reply = r.reply;
        attends = r.attends;
        rejected = r.rejected;
        all = subst (AllByRecursion IsHeard) (sym (append_assoc l r.lines last)) (all_append IsHeard l (r.lines ++ last) all r.all);
        unused = r.unused;
        heard_is = heard_more l (r.lines ++ last) h b g r.unused is r.heard_is ∙ ap (λ v. joined v ++ r.unused) (sym (append_assoc l r.lines last));
        sent = appends_same old new (s ++ (r.text ++ r.reply)) ((s ++ r.text) ++ r.reply) (sym (append_assoc s r.text r.reply)) (appends_more old mid new s (r.text ++ r.reply) sent r.sent);
      }

  -- further bytes of the piece
  pub stopped_more : (j k : Standing) (old new : Option (List ℕ)) (h more whole : List ℕ) → IsStopped manner spec j k old new h → whole ≡ h ++ more → IsStopped manner spec j k old new whole
  stopped_more j k old new h more whole r is = record {
    lines = r.lines;
    mid = r.mid;
    text = r.text;
    talk = r.talk;
    none = r.none;
    last = r.last;
    reply = r.reply;
    attends = r.attends;
    rejected = r.rejected;
    all = r.all;
    unused = r.unused ++ more;
    heard_is = is ∙ ap (λ v. v ++ more) r.heard_is ∙ append_assoc (joined (r.lines ++ r.last ∷ [])) r.unused more;
    sent = r.sent;
  }

  pub listens_then : (j i k : Standing) (old mid new : Option (List ℕ)) (h b g c : List ℕ) (r : Result (Option Ending) WireError) →
      Open Says j i old mid h b → Listens manner spec i k mid new (b ++ g) c r → Listens manner spec j k old new (h ++ g) c r
  listens_then j i k old mid new h b g c (Ok None) o m = hears_then Says j i k old mid new h b g c (Ok None) o m
  listens_then j i k old mid new h b g c (Ok (Some (By end))) o m = hears_then Says j i k old mid new h b g c (Ok (Some end)) o m
  listens_then j i k old mid new h b g c (Ok (Some Rejected)) o m = stopped_then j i k old mid new h b g o m
  listens_then j i k old mid new h b g c (Err e) o m = hears_then Says j i k old mid new h b g c (Err e) o m

  -- what ends the talk within a piece of input
  pub listens_out : (j i k : Standing) (old mid new : Option (List ℕ)) (h b g c more d whole : List ℕ) (r : Result (Option Ending) WireError) →
      (r ≡ Ok None → ⊥) → Open Says j i old mid h b → Listens manner spec i k mid new (b ++ g) c r → whole ≡ (h ++ g) ++ more → Listens manner spec j k old new whole d r
  listens_out j i k old mid new h b g c more d whole (Ok None) not o m is = absurd (not refl)
  listens_out j i k old mid new h b g c more d whole (Ok (Some (By end))) not o m is = hears_out Says j i k old mid new h b g c more d whole (Ok (Some end)) (λ e. cc) o m is
  listens_out j i k old mid new h b g c more d whole (Ok (Some Rejected)) not o m is = stopped_more j k old new (h ++ g) more whole (stopped_then j i k old mid new h b g o m) is
  listens_out j i k old mid new h b g c more d whole (Err e) not o m is = hears_out Says j i k old mid new h b g c more d whole (Err e) (λ x. cc) o m is

  -- what the reply to a line that is too long came to
  pub listens_long : (j : Standing) (old new : Option (List ℕ)) (bytes more d : List ℕ) (r : Result (Option Ending) WireError) →
      4096 < length bytes → Lacks 10 bytes → OnOk r (Appends old new (codes "ERR 12 line\n")) →
      OnErr r ((n : ℕ) × Appends old new (take n (codes "ERR 12 line\n"))) →
      (r ≡ Ok (Some (By Line))) ⊎ (r ≡ Err Write) → Listens manner spec j j old new (bytes ++ more) d r
  listens_long j old new bytes more d r long plain ok cut (inl is) =
      let sent : Appends old new (codes "ERR 12 line\n") = subst (λ (v : Result (Option Ending) WireError). OnOk v (Appends old new (codes "ERR 12 line\n"))) is ok in
      subst (λ v. Listens manner spec j j old new (bytes ++ more) d v) (sym is)
      (hears_long Says j old new bytes more d (Ok (Some Line)) long plain sent tt (inl refl))
  listens_long j old new bytes more d r long plain ok cut (inr is) =
      let sent : (n : ℕ) × Appends old new (take n (codes "ERR 12 line\n")) = subst (λ (v : Result (Option Ending) WireError). OnErr v ((n : ℕ) × Appends old new (take n (codes "ERR 12 line\n")))) is cut in
      subst (λ v. Listens manner spec j j old new (bytes ++ more) d v) (sym is)
      (hears_long Says j old new bytes more d (Err Write) long plain tt sent (inr refl))

  -- the end of the whole
  pub attendance_end : (talked : Conversation Standing) (h c : List ℕ) (end : Ending) → Consumes talked.unread_before talked.unread_after h →
      GoesOn manner talked.after.tally (Ok (Some end)) →
      Listens manner spec talked.before talked.after talked.written_before talked.written_after h c (Ok (Some end)) → Attendance manner spec talked (Ok end)
  attendance_end talked h c (By end) took going m = (serves_end Says talked h c end took m, going)
  attendance_end talked h c Rejected took going m = (h, took, going, m)

  pub attendance_err : (talked : Conversation Standing) (h c : List ℕ) (e : WireError) → Consumes talked.unread_before talked.unread_after h →
      Listens manner spec talked.before talked.after talked.written_before talked.written_after h c (Err e) → Attendance manner spec talked (Err e)
  attendance_err talked h c e took m = serves_err Says talked h c e took m

-- of the same manner and specification
pub listens_as : (m m' : Manner) (s s' : Specified) (j k : Standing) (old new : Option (List ℕ)) (h c : List ℕ) (r : Result (Option Ending) WireError) → m ≡ m' → s ≡ s' →
    Listens m s j k old new h c r → Listens m' s' j k old new h c r
listens_as m m' s s' j k old new h c r e f l = subst (λ (x : Manner). Listens x s' j k old new h c r) e (subst (λ (x : Specified). Listens m x j k old new h c r) f l)

pub goes_as : (m m' : Manner) (t : Tally) (r : Result (Option Ending) WireError) → m ≡ m' → GoesOn m t r → GoesOn m' t r
goes_as m m' t r e g = subst (λ (x : Manner). GoesOn x t r) e g

-- a line that is too long leaves the tally
pub goes_long : (m : Manner) (t : Tally) (r : Result (Option Ending) WireError) → (m.first ≡ true → t.rejected ≡ false) → (r ≡ Ok (Some (By Line))) ⊎ (r ≡ Err Write) → GoesOn m t r
goes_long m t r going (inl is) = subst (λ (v : Result (Option Ending) WireError). GoesOn m t v) (sym is) going
goes_long m t r going (inr is) = subst (λ (v : Result (Option Ending) WireError). GoesOn m t v) (sym is) tt
