use Rattle.std.proofs.Common.{rules, ℕ, length, take, ◌∙◌, ap, sym, arith}
use Rattle.disk.specs.Calls.{overwritten}
use Rattle.file_disk.proofs.Runs.{Writes, writes_none, writes_rest}
use Rattle.file_disk.proofs.Tears.{overwritten_none, overwritten_on}
use Rattle.file_disk.proofs.places.put.Goals as goal
use Rattle.file_disk.proofs.places.put.Goals.{in-Ok, in-Err-Interrupted}

pub loop-init : goal.loop-init
loop-init g c =
    let s = g.F.PlacedFile.state c.args.file.now in
    let none : Writes c.args.at (length c.args.bytes.now) s s = writes_none c.args.at (length c.args.bytes.now) s in
    record {
      within = omega arith;
      continues = none.continues;
      time = none.time;
      written = λ claims le. overwritten_none c.args.at c.args.bytes.now s.bytes;
      part = none.part;
      files = none.files;
    }

pub loop-preserved : goal.loop-preserved
loop-preserved g c =
    let state = g.F.PlacedFile.state in
    let was = c.loop.invariant in
    let did = c.write_some.ensures in
    let writes : Writes c.args.at (length c.args.bytes.now) (state c.args.file.now) (state c.write_some.new.self) =
    writes_rest c.args.at c.loop.done c.args.bytes.now (state c.args.file.now) (state c.loop.file) (state c.write_some.new.self) was.within
    (record { continues = was.continues; time = was.time; part = was.part; files = was.files })
    (record { continues = did.continues; time = did.time; part = did.part; files = did.files }) did.still in
    record {
      within = search rules;
      continues = writes.continues;
      time = writes.time;
      written = λ claims le. elim c.match-write_some.branch [
        | in-Ok w ↦ overwritten_on c.args.at c.loop.done w.in-Ok.count c.match-write_some.done c.args.bytes.now (state c.args.file.now).bytes (state c.loop.file).bytes (state c.write_some.new.self).bytes
            w.done-is le was.within w.in-Ok.ensures.count (was.written claims le) (λ long. w.in-Ok.ensures.done (was.continues.bytes_claim ∙ claims) long)
        | in-Err-Interrupted w ↦ w.in-Err-Interrupted.ensures.none w.in-Err-Interrupted.field-0-is (was.continues.bytes_claim ∙ claims) ∙ was.written claims le
            ∙ ap (λ (j : ℕ). overwritten c.args.at (take j c.args.bytes.now) (state c.args.file.now).bytes) (sym w.done-is)
      ];
      part = writes.part;
      files = writes.files;
    }

pub returns-in-Ok-eq0-clause-part : goal.returns-in-Ok-eq0-clause-part
returns-in-Ok-eq0-clause-part g c =
    let state = g.F.PlacedFile.state in
    let was = c.loop.invariant in
    let did = c.write_some.ensures in
    let writes : Writes c.args.at (length c.args.bytes.now) (state c.args.file.now) (state c.write_some.new.self) =
    writes_rest c.args.at c.loop.done c.args.bytes.now (state c.args.file.now) (state c.loop.file) (state c.write_some.new.self) was.within
    (record { continues = was.continues; time = was.time; part = was.part; files = was.files })
    (record { continues = did.continues; time = did.time; part = did.part; files = did.files }) did.still in
    writes.part

pub returns-in-Ok-eq0-clause-files : goal.returns-in-Ok-eq0-clause-files
returns-in-Ok-eq0-clause-files g c =
    let state = g.F.PlacedFile.state in
    let was = c.loop.invariant in
    let did = c.write_some.ensures in
    let writes : Writes c.args.at (length c.args.bytes.now) (state c.args.file.now) (state c.write_some.new.self) =
    writes_rest c.args.at c.loop.done c.args.bytes.now (state c.args.file.now) (state c.loop.file) (state c.write_some.new.self) was.within
    (record { continues = was.continues; time = was.time; part = was.part; files = was.files })
    (record { continues = did.continues; time = did.time; part = did.part; files = did.files }) did.still in
    writes.files

pub returns-in-Err-Failed-clause-part : goal.returns-in-Err-Failed-clause-part
returns-in-Err-Failed-clause-part g c =
    let state = g.F.PlacedFile.state in
    let was = c.loop.invariant in
    let did = c.write_some.ensures in
    let writes : Writes c.args.at (length c.args.bytes.now) (state c.args.file.now) (state c.write_some.new.self) =
    writes_rest c.args.at c.loop.done c.args.bytes.now (state c.args.file.now) (state c.loop.file) (state c.write_some.new.self) was.within
    (record { continues = was.continues; time = was.time; part = was.part; files = was.files })
    (record { continues = did.continues; time = did.time; part = did.part; files = did.files }) did.still in
    writes.part

pub returns-in-Err-Failed-clause-files : goal.returns-in-Err-Failed-clause-files
returns-in-Err-Failed-clause-files g c =
    let state = g.F.PlacedFile.state in
    let was = c.loop.invariant in
    let did = c.write_some.ensures in
    let writes : Writes c.args.at (length c.args.bytes.now) (state c.args.file.now) (state c.write_some.new.self) =
    writes_rest c.args.at c.loop.done c.args.bytes.now (state c.args.file.now) (state c.loop.file) (state c.write_some.new.self) was.within
    (record { continues = was.continues; time = was.time; part = was.part; files = was.files })
    (record { continues = did.continues; time = did.time; part = did.part; files = did.files }) did.still in
    writes.files
