-- Bytes that show neither a fault nor a refused update have a text where they are all there are.
use Rattle.std.proofs.Common.{ℕ, List, length, refl, subst, inl, inr}
use Rattle.braid_io.specs.declared.status.Status.{Status}
use Rattle.braid_io.specs.declared.status.Status.TheVariants.{Done, Bad}
use Rattle.braid_grammar.proofs.Law as grammar
use Rattle.braid_stream.proofs.Completed.{stream_completed}
use Rattle.braid_check.specs.Accepted.{AreAccepted, history_of}
use Rattle.braid_check.specs.CheckTexts.{ShowNothing, IsEndText, stream, torn, history_text, torn_text}

pub ends : (bytes : List ℕ) → ShowNothing bytes → (status : Status) × (text : List ℕ) × IsEndText bytes status text
ends bytes s = elim (grammar.decided bytes) [
  | inl w ↦
      let same = stream_completed s.updates w.0 bytes s.have.completes w.1 in
      (Done, history_text (history_of w.0), stream w.0 (subst AreAccepted same s.accepted) w.1 refl refl)
  | inr (inl f) ↦ absurd (s.have.faultless f.0 f.1 f.2)
  | inr (inr t) ↦ (Bad, torn_text (length bytes), torn s t refl refl)
]
