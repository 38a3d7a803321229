use Rattle.settlement.proofs.Rulings.{ruled_ok}
use Rattle.day_file.proofs.Entries.{write_is}
use Rattle.day_file.proofs.Headers.{writable}
use Rattle.day_file.proofs.writing.write.Goals as goal

pub returns : goal.returns
returns c =
    let e = (ruled_ok _ _ _ c.in_ok-check_writing.ensures).0 in
    record {
      unrefused = e;
      valid = writable c.args.header.now c.args.calls.now _ e c.lay.ensures.fit c.lay-2.ensures.fit;
      size = c.file_length-end.ensures;
      bytes = write_is c.args.header.now c.args.calls.now c.to_be_bytes.result c.copy_from_slice.new.self c.lay.new.out c.lay-2.new.out c.args.out.now c.file_length-end.result c.to_be_bytes.ensures c.copy_from_slice.ensures.after c.lay.ensures.laid c.lay-2.ensures.laid c.file_length-end.ensures;
    }
