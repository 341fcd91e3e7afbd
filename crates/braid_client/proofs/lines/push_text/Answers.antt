use Rattle.std.proofs.Common.{◌≡◌, ◌++◌, ℕ, List, Result, subst}
use Rattle.std.specs.Result.{OnOk}
use Rattle.braid_text.specs.Histories.{text_of}
use Rattle.braid_text.specs.Digested.{digest_at}
use Rattle.braid_lines.specs.Lines.{content_lines}
use Rattle.braid_outbox.specs.Replicas.{ReplicaView, all_of}
use Rattle.braid_client.specs.Texts.{content_text}
use Rattle.braid_client.proofs.lines.push_text.Goals as goal

-- the lines on a text and a digest are those of a replica that has them
content_of : {E : Type 0} (r : ReplicaView) (old new text digest : List ℕ) (result : Result (Unit {0}) E) → text ≡ text_of (all_of r) → digest ≡ digest_at (all_of r)
    → OnOk result (new ≡ old ++ content_lines text digest) → OnOk result (new ≡ old ++ content_text r)
content_of r old new text digest result t d h = subst (λ (lines : List ℕ). OnOk result (new ≡ old ++ lines)) (λ i. content_lines (t i) (d i)) h

pub returns : goal.returns
returns c = record {
  ok = content_of c.args.replica.now c.args.out.now c.push_content.new.out c.in_ok-text.text c.in_ok-digest.digest c.push_content.result c.in_ok-text.ensures.ok c.in_ok-digest.ensures.ok c.push_content.ensures.ok;
}
