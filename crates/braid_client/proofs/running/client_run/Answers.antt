use Rattle.std.proofs.Common.{◌∙◌}
use Rattle.braid_client.specs.Runs.{setting}
use Rattle.braid_client.proofs.HungUp.{words_hung_up}
use Rattle.braid_client.proofs.running.client_run.Goals as goal

pub returns : goal.returns
returns g c = record {
  runs = record {
    result = c.carry_out_words-carried.result;
    before = g.O.Sink.outflow c.carry_out_words-carried.new.out;
    carries = c.carry_out_words-carried.ensures.carries;
    finishes = c.finish.ensures.finishes;
  };
  hung_up = words_hung_up c.args.words.now c.carry_out_words-carried.result
      (setting (g.K.Keeper.keeping c.args.keeper.now) (g.D.Dialer.dialing c.args.dialer.now) (g.O.Sink.outflow c.args.out.now))
      (setting (g.K.Keeper.keeping c.carry_out_words-carried.new.keeper) (g.D.Dialer.dialing c.carry_out_words-carried.new.dialer) (g.O.Sink.outflow c.carry_out_words-carried.new.out))
      c.carry_out_words-carried.ensures.carries;
  kept = c.finish.ensures.kept ∙ c.carry_out_words-carried.ensures.kept;
}
