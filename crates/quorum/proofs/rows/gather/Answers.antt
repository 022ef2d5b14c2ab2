use Rattle.std.proofs.Common.{◌≡◌, min, length, arith}
use Rattle.std.proofs.Math.ListN.{length-take}
use Rattle.std.proofs.Math.Seq.{get_or-take}
use Rattle.quorum.specs.Limits.{row_limit}
use Rattle.quorum.specs.Rows.{nobody, id_of, value_for}
use Rattle.quorum.proofs.Padded.{filled_more, filled_all}
use Rattle.quorum.proofs.rows.gather.Goals as goal

pub loop-i-preserved : goal.loop-i-preserved
loop-i-preserved c =
    let taken = length-take c.shorter-end.result c.args.peers.now in
    let row = get_or-take c.shorter-end.result c.args.peers.now c.loop-i.i nobody (omega (arith, taken)) in
    record {
      ids = cc (row, filled_more id_of nobody row_limit c.loop-i.i c.args.peers.now (omega (arith, taken)) (omega (arith, taken)));
      values = cc (row, filled_more (value_for c.args.question) nobody row_limit c.loop-i.i c.args.peers.now (omega (arith, taken)) (omega (arith, taken)));
    }

pub returns : goal.returns
returns c =
    let all : c.loop-i.i ≡ min (length c.args.peers.now) row_limit = omega (arith, length-take c.shorter-end.result c.args.peers.now) in
    cc (filled_all id_of row_limit c.loop-i.i c.args.peers.now all, filled_all (value_for c.args.question) row_limit c.loop-i.i c.args.peers.now all)
