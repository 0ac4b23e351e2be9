use Rattle.std.proofs.Common.{rules, List, ℕ, length, take, drop, ◌-◌, ◌∙◌, ap}
use Rattle.file_disk.proofs.Runs.{Reads, reads_more}
use Rattle.file_disk.proofs.Tears.{filled_more, filled_still}
use Rattle.file_disk.proofs.places.fill.Goals as goal
use Rattle.file_disk.proofs.places.fill.Goals.{in-Ok, in-Err-Interrupted}

pub loop-preserved : goal.loop-preserved
loop-preserved g c =
    let state = g.F.PlacedFile.state in
    let was = c.loop.invariant in
    let did = c.read_some.ensures in
    let reads : Reads (state c.args.file.now) (state c.read_some.new.self) =
    reads_more (state c.args.file.now) (state c.loop.file) (state c.read_some.new.self)
    (record { continues = was.continues; time = was.time; bytes = was.bytes; files = was.files })
    (record { continues = did.continues; time = did.time; bytes = did.bytes; files = did.files }) in
    record {
      within = search rules;
      same = search rules;
      continues = reads.continues;
      time = reads.time;
      bytes = reads.bytes;
      files = reads.files;
      filled = λ claims. elim c.match-read_some.branch [
        | in-Ok w ↦ filled_more c.args.at c.loop.done w.in-Ok.count (length c.loop.buf - c.loop.done) c.in-Some.place c.match-read_some.done
            c.loop.buf c.read_some.new.buf (state c.args.file.now).bytes w.done-is was.within (search rules) (search rules) (was.filled claims)
            (w.in-Ok.ensures.value (was.continues.bytes_claim ∙ claims) ∙ ap (λ (l : List ℕ). take w.in-Ok.count (drop c.in-Some.place l)) (was.bytes claims))
        | in-Err-Interrupted w ↦ filled_still c.args.at c.loop.done (length c.loop.buf - c.loop.done) c.match-read_some.done
            c.loop.buf c.read_some.new.buf (state c.args.file.now).bytes w.done-is was.within (was.filled claims)
      ];
    }
