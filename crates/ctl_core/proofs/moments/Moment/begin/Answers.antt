use Rattle.ctl_words.specs.Plans.{plan_of}
use Rattle.ctl_core.proofs.Changes.{Fits-opening, running-opening, past_end}
use Rattle.ctl_core.proofs.moments.Moment.begin.Goals as goal

pub returns-clause-fits : goal.returns-clause-fits
returns-clause-fits c =
    Fits-opening (plan_of c.args.plan.now) _
    record {
      some_thread = c.requires.tables.some_thread;
      past = past_end c.args.plan.now c.requires;
      known = c.in_ok-begin.ensures.words;
      words = c.in_ok-begin.ensures.opening;
      locals = c.in_ok-fill_openings.ensures;
      latched = c.in_ok-fill_latches.ensures;
      small = record { first = c.revisions_are_small.ensures.first; writes = c.revisions_are_small.ensures.writes };
      counted = c.unfinished-self-inside.ensures;
      chained = c.in_ok-begin-2.ensures;
    }

pub returns-clause-opening : goal.returns-clause-opening
returns-clause-opening c =
    running-opening (plan_of c.args.plan.now) _
    record {
      some_thread = c.requires.tables.some_thread;
      past = past_end c.args.plan.now c.requires;
      known = c.in_ok-begin.ensures.words;
      words = c.in_ok-begin.ensures.opening;
      locals = c.in_ok-fill_openings.ensures;
      latched = c.in_ok-fill_latches.ensures;
      small = record { first = c.revisions_are_small.ensures.first; writes = c.revisions_are_small.ensures.writes };
      counted = c.unfinished-self-inside.ensures;
      chained = c.in_ok-begin-2.ensures;
    }
