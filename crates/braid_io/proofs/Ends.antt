-- Lists that are told or not, with one more at the end.
use Rattle.std.proofs.Common.{◌≡◌, ℕ, List, [], ◌∷◌, ◌++◌, map, refl, ap, sym, ◌∙◌, subst, true≢false, Option, Some, None}
use Rattle.std.proofs.lemmas.List.{same_from_push, map-append}
use Rattle.std.proofs.lemmas.Option.{same_Some}
use Rattle.std.specs.Prelude.{IsSome}
use Rattle.braid_io.specs.Outside.{with_last}
use Rattle.braid_io.specs.InMemory.{MemTalk, talk_intake, talk_outflow}
use Rattle.braid_io.specs.Dialers.{HangsUp}
use Rattle.braid_io.specs.MemDialers.{MemDialing, MemHangsUp, dialing_of, talk_of}

-- what stood before the last one, and the last one, are known
pub before_last : (xs : List (List ℕ)) (x : List ℕ) (before : Option (List (List ℕ))) (last : List ℕ) → Some (xs ++ x ∷ []) ≡ with_last before last → (Some xs ≡ before) × (x ≡ last)
before_last xs x None last e = absurd (true≢false (sym (subst IsSome e refl)))
before_last xs x (Some ys) last e =
    let h = same_from_push xs ys x last (same_Some _ _ e) in
    (ap Some h.0, h.1)

-- a link that is hung up at a dialer in memory is hung up
pub hangs_up : (link : MemTalk) (old new : MemDialing) → MemHangsUp link old new → HangsUp (talk_intake link) (talk_outflow link) (dialing_of old) (dialing_of new)
hangs_up link old new h = record {
  servers = λ before server e. (before_last new.servers h.server before server (sym (ap Some h.was_up) ∙ e)).0;
  talks = λ before server e.
      ap (λ (d : MemDialing). Some (map talk_of d.talks)) h.moved
      ∙ ap Some (map-append talk_of old.talks _)
      ∙ ap (λ s. Some (map talk_of old.talks ++ (record { server = s; intake = talk_intake link; outflow = talk_outflow link }) ∷ []))
      (before_last new.servers h.server before server (sym (ap Some h.was_up) ∙ e)).1;
  faults = ap (λ (d : MemDialing). d.faults) h.moved;
  link_read_faults = ap (λ (d : MemDialing). d.link_read_faults) h.moved;
  link_write_faults = ap (λ (d : MemDialing). d.link_write_faults) h.moved;
}
