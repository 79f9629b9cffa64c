use Rattle.tool_text.specs.rendezvous_steps.ItemText.{item_line}
use Rattle.live_cli.proofs.Headline.{texts_hold}
use Rattle.live_cli.proofs.laws.each_text_holds.Goals as goal

pub returns : goal.returns
returns c = texts_hold
    (record {
      runs = c.each_run_holds.ensures.runs;
      moments = c.each_run_holds.ensures.moments;
      ended = c.the_end_is_unlisted.ensures;
      grows = λ lists. c.a_run_lowers_no_revision.ensures item_line lists;
      falls = c.only_a_suspend_lets_a_revision_fall.ensures;
      leave = c.what_a_load_leaves.ensures;
      opening = c.each_state_stands.ensures.opening;
      stand = c.each_state_stands.ensures.steps;
      boots_lend = c.each_offer_is_lent.ensures.boot;
      loads_lend = c.each_offer_is_lent.ensures.load;
    })
