use Rattle.braid_session.proofs.serve.ask.Goals as goal

pub returns : goal.returns
returns g c = record {
  asks = rw c.requires.live at c.ask.ensures.asks;
  over = rw c.requires.live at c.ask.ensures.over;
  kept = c.ask.ensures.kept;
}
