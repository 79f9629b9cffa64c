use Rattle.std.proofs.Common.{ℕ, ◌≡◌, ◌++◌, ◌∙◌, ap, arith}
use Rattle.uc_gen.specs.Texts.{thread_line, thread_lines}
use Rattle.uc_gen.proofs.Pieces.{thread_lines-none, thread_lines-more, behind_more, behind_none}
use Rattle.uc_gen.proofs.texts.push_threads.Goals as goal

pub threads-init : goal.threads-init
threads-init c = behind_none c.args.bytes.now.items (thread_lines 0) thread_lines-none

pub threads-preserved : goal.threads-preserved
threads-preserved c =
    behind_more c.args.bytes.now.items (thread_lines c.threads.thread) (thread_line c.threads.thread) _ _ _ c.threads.invariant c.in_ok-push_thread.ensures (thread_lines-more c.threads.thread)

pub returns : goal.returns
returns c =
    let all : c.threads.thread ≡ 256 = omega (arith, c.threads-test.false, c.threads.auto.thread-end) in
    c.threads.invariant ∙ ap (λ (n : ℕ). c.args.bytes.now.items ++ thread_lines n) all
