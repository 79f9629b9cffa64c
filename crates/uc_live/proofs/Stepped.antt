-- A post that was stepped again and again.
use Rattle.std.proofs.Common.{◌∙◌, refl}
use Rattle.ctl_table.specs.declared.posts.Post.{Post}
use Rattle.uc_live.specs.Chains.{Stays}

pub still : (post : Post) → Stays post post
still post = record { thread = refl; given = refl; joined = refl }

pub stays_on : (a b c : Post) → Stays a b → Stays b c → Stays a c
stays_on a b c first next =
    record {
      thread = next.thread ∙ first.thread;
      given = next.given ∙ first.given;
      joined = next.joined ∙ first.joined;
    }
