-- A follow of a whole reply is done.
use Rattle.std.proofs.Common.{◌≡◌, ◌≢◌, ℕ, ◌≤◌, ◌<◌, append_assoc, append-nil, List, [], ◌∷◌, ◌++◌, inl, inr, ◌⊎◌, refl, ap, sym, subst, ◌∙◌, length, drop, take-append-drop, Ok, Err, Option, Some, None, unwrap_or, arith, length-append}
use Rattle.std.specs.Io.KnownBytes.{IsAtEnd}
use Rattle.braid_change.specs.Updates.{UpdateView}
use Rattle.braid_grammar.specs.Streams.{IsStream}
use Rattle.braid_grammar.proofs.Law.{no_stream}
use Rattle.braid_frame.specs.declared.fed.FrameFault.{FrameFault}
use Rattle.braid_frame.specs.Phases.{HasFault}
use Rattle.braid_stream.specs.Readers.{most_bytes}
use Rattle.braid_http.specs.declared.refusal.Refusal.TheVariants.{BadChunk}
use Rattle.braid_http.specs.declared.response.ReplyHead.{ReplyHead}
use Rattle.braid_http.specs.declared.response.BodyKind.{BodyKind}
use Rattle.braid_http.specs.declared.response.BodyKind.TheVariants.{ToClose}
use Rattle.braid_http.specs.Bodies.{IsBody, IsAgainst}
use Rattle.braid_http.specs.Responses.{ReplyAnswer, replied, refused, IsReplyDecided}
use Rattle.braid_outbox.specs.Replicas.{ReplicaView}
use Rattle.braid_sync.specs.declared.place.Place.{Place}
use Rattle.braid_sync.specs.declared.end.SyncEnd.{SyncEnd}
use Rattle.braid_sync.specs.declared.end.SyncEnd.TheVariants as ends
use Rattle.braid_sync.specs.Talks.{Said, offered, nothing_failed, read_failed, write_failed, print_failed}
use Rattle.braid_sync.specs.Judging.{judge}
use Rattle.braid_sync.specs.Learning.{Learns}
use Rattle.braid_sync.specs.Hearing.{HasData, seen, BeginWith, Hears, IsCutOff, IsRefused, EndsHearing}
use Rattle.braid_sync.specs.Opening.{EndsHead, Begun, opened, ended, Opens, unwritten, headless, turned_down, begun, unaided}
use Rattle.braid_sync.specs.Syncs.{failing}
use Rattle.braid_sync.specs.Follows.{IsCut, FollowText, not_begun, counted, heard_out, broken_off, unprinted, unreached, unaided as follow_unaided}
use Rattle.braid_sync.specs.Laws.{IsSubscriptionOf, FollowCompletes}
use Rattle.braid_sync.proofs.Growing.{still_decided}
use Rattle.braid_sync.proofs.LawFronts.{same_both}
use Rattle.braid_sync.proofs.LawStreams.{begins_compare, begins_more, stream_stops, fault_more}
use Rattle.braid_sync.proofs.LawData.{data_grows, one_data, last_whole, last_against, not_whole_and_against, not_begun_and_whole}
use Rattle.braid_sync.proofs.LawHearing.{learns_next}
use Rattle.braid_sync.proofs.LawOpening.{Starts, opens_as, one_head, not_open, head_or_refusal}

-- done, or no memory
abbrev IsFine : SyncEnd → Type 0
IsFine end = (end ≡ ends.Done) ⊎ (end ≡ ends.Memory)

-- a body that a follow breaks off
record Breaks (place : Place) (r : ReplicaView) (said : Said) (q : ReplicaView) (end : SyncEnd) : Type 0 where
  kind : BodyKind
  V : List (List ℕ)
  behind : List ℕ
  passed : List ℕ
  rest : List ℕ
  content : List ℕ
  us : List UpdateView
  starts : Starts place r said kind V behind
  hears : Hears kind behind r passed rest content us q
  ends_so : EndsHearing (IsCut kind content passed rest said.left) kind passed rest content us q end

data Ways (place : Place) (r : ReplicaView) (said : Said) (q : ReplicaView) (end : SyncEnd) : Type 0 where
  is_done : end ≡ ends.Done → Ways place r said q end
  no_print : end ≡ ends.OutFault → Ways place r said q end
  no_start : Opens place r said (ended end) → Ways place r said q end
  breaks : Breaks place r said q end → Ways place r said q end

abbrev OnLink : Place → ReplicaView → List Said → ReplicaView → SyncEnd → Type 0
OnLink place r [] q end = Unit {0}
OnLink place r (said ∷ saids) q end = Ways place r said q end

on_link : (place : Place) (count : ℕ) (r q : ReplicaView) (saids : List Said) (lines line : List ℕ) (n : ℕ) (end : SyncEnd) → FollowText place count r saids lines n line q end → OnLink place r saids q end
on_link place count r _ _ _ _ _ _ unreached = tt
on_link place count r _ _ _ _ _ _ follow_unaided = tt
on_link place count r _ _ _ _ _ _ (not_begun said end to o) = no_start o
on_link place count r _ _ _ _ _ _ (counted said kind V behind passed rest content us q to o h n) = is_done refl
on_link place count r _ _ _ _ _ _ (heard_out said kind V behind passed rest content us q to o h n w) = is_done refl
on_link place count r _ _ _ _ _ _ (broken_off said kind V behind passed rest content us q end to o h n e) =
    breaks (record { kind = kind; V = V; behind = behind; passed = passed; rest = rest; content = content; us = us; starts = opens_as place r said _ o; hears = h; ends_so = e })
on_link place count r _ _ _ _ _ _ (unprinted said kind V behind passed rest content line us q m to o h n u) = no_print refl

-- what a link has left, as far as it tells that
abbrev left_of : Said → List ℕ
left_of said = unwrap_or said.left []

nothing_left : (left : Option (List ℕ)) → IsAtEnd left → unwrap_or left [] ≡ []
nothing_left None h = refl
nothing_left (Some xs) h = h

offered_decided : (x : ReplyAnswer) (said : Said) (rest : List ℕ) → IsReplyDecided x said.given rest → IsReplyDecided x (offered said) (rest ++ left_of said)
offered_decided x said rest d = still_decided x said.given rest (left_of said) d

all_given : (said : Said) → IsAtEnd said.left → offered said ≡ said.given
all_given said h = ap (λ t. said.given ++ t) (nothing_left said.left h) ∙ append-nil said.given

module _ (place : Place) (r : ReplicaView) (said : Said) (W : List (List ℕ)) (us : List UpdateView) (sub : IsSubscriptionOf W us (offered said)) where
  -- a whole reply begins a subscription
  headless_fine : (end : SyncEnd) → EndsHead end said → failing end ≡ nothing_failed → IsFine end
  headless_fine ends.Cut h f = absurd (not_open (replied sub.head) said.given (sub.body ++ sub.more) h.0 (subst (λ t. IsReplyDecided (replied sub.head) t (sub.body ++ sub.more)) (all_given said h.1) sub.decided))
  headless_fine (ends.BadHead x) h f = absurd (head_or_refusal sub.head x (offered said) (sub.body ++ sub.more) (h.0 ++ left_of said) sub.decided (offered_decided (refused x) said h.0 h.1))
  headless_fine ends.ReadFault h f = absurd (cc)
  headless_fine end h f = absurd h

  turned_down_not : (head : ReplyHead) (rest : List ℕ) (end : SyncEnd) → IsReplyDecided (replied head) said.given rest → judge head ≡ Err end → ⊥
  turned_down_not head rest end d j =
      let z = (one_head head sub.head (offered said) (rest ++ left_of said) (sub.body ++ sub.more) (offered_decided (replied head) said rest d) sub.decided).0 in
      let k : Err end ≡ Ok W = sym j ∙ ap judge z ∙ sub.judged in
      cc

  abbrev Begins : Begun → Type 0
  Begins (opened kind V behind) = Unit {0}
  Begins (ended end) = failing end ≡ nothing_failed → IsFine end

  opens_fine : (x : Begun) → Opens place r said x → Begins x
  opens_fine _ (unwritten p g) = λ f. absurd (let k : write_failed ≡ nothing_failed = f in cc)
  opens_fine _ (headless end s h) = λ f. headless_fine end h f
  opens_fine _ (turned_down head rest end s d j) = λ f. absurd (turned_down_not head rest end d j)
  opens_fine _ (begun head rest V s d j) = tt
  opens_fine _ (unaided p) = λ f. inr refl

-- a whole body, and what a follow that broke off has passed of it
record Body (us : List UpdateView) (kind : BodyKind) (passed rest left content : List ℕ) : Type 0 where
  body : List ℕ
  whole : List ℕ
  more : List ℕ
  framed : kind ≢ ToClose
  is : IsBody kind whole body
  stream : IsStream us whole
  short : length whole < most_bytes
  split : passed ++ (rest ++ left) ≡ body ++ more

body_of : (place : Place) (r : ReplicaView) (said : Said) (W : List (List ℕ)) (us : List UpdateView) (q : ReplicaView) (end : SyncEnd) → IsSubscriptionOf W us (offered said) → (b : Breaks place r said q end) → Body us b.kind b.passed b.rest (left_of said) b.content
body_of place r said W us q end sub b =
    let z = one_head b.starts.head sub.head (offered said) (b.behind ++ left_of said) (sub.body ++ sub.more) (offered_decided (replied b.starts.head) said b.behind b.starts.decided) sub.decided in
    let kind : sub.head.body ≡ b.kind = ap (λ (x : ReplyHead). x.body) (sym z.0) ∙ sym b.starts.kind_is in
    record {
      body = sub.body;
      whole = sub.content;
      more = sub.more;
      framed = λ e. sub.framed (kind ∙ e);
      is = subst (λ k. IsBody k sub.content sub.body) kind sub.is;
      stream = sub.stream;
      short = sub.short;
      split = sym (append_assoc b.passed b.rest (left_of said)) ∙ ap (λ t. t ++ left_of said) (sym b.hears.split) ∙ z.1;
    }

module _ (us : List UpdateView) (kind : BodyKind) (passed rest left content : List ℕ) (b : Body us kind passed rest left content) (comes : HasData kind content passed) where
  -- what was passed is a front of the body
  front : (x : List ℕ) × (b.body ≡ passed ++ x)
  front = last_whole kind b.whole b.body b.more b.framed b.is content passed (rest ++ left) comes b.split

  -- its data is a front of the whole data
  part : (y : List ℕ) × (b.whole ≡ content ++ y)
  part = data_grows kind content passed b.whole b.body front.0 comes (inr (inl b.is)) front.1

  looked_at : (z : List ℕ) × (b.whole ≡ seen content ++ z)
  looked_at = (drop most_bytes content ++ part.0, part.1 ∙ ap (λ t. t ++ part.0) (sym (take-append-drop most_bytes content)) ∙ append_assoc (seen content) (drop most_bytes content) part.0)

  not_over : IsBody kind content passed → IsStream us content
  not_over h =
      let x = last_whole kind content passed (rest ++ left) b.framed h b.whole b.body b.more (inr (inl b.is)) (sym b.split) in
      let same = same_both b.body passed x.0 front.0 x.1 front.1 in
      subst (IsStream us) (one_data kind b.whole content passed (subst (HasData kind b.whole) same (inr (inl b.is))) comes) b.stream

  not_against : IsAgainst kind content passed → ⊥
  not_against h =
      let x = last_against kind content passed (rest ++ left) h b.whole b.body b.more (inr (inl b.is)) (sym b.split) in
      let same = same_both b.body passed x.0 front.0 x.1 front.1 in
      not_whole_and_against kind b.whole content passed (subst (IsBody kind b.whole) same b.is) h

  not_cut_off : (told : Option (List ℕ)) → left ≡ unwrap_or told [] → IsCutOff kind content passed rest told → ⊥
  not_cut_off told e h =
      let nothing : rest ++ left ≡ [] = ap (λ t. t ++ left) h.behind ∙ e ∙ nothing_left told h.ended in
      not_begun_and_whole kind b.whole content b.body b.more passed b.framed b.is h.begun (sym (ap (λ t. passed ++ t) nothing ∙ append-nil passed) ∙ b.split)

  not_faulty : (vs : List UpdateView) (f : FrameFault) → HasFault vs (seen content) f → ⊥
  not_faulty vs f h =
      let k = subst (λ t. HasFault vs t f) (sym looked_at.1) (fault_more vs (seen content) looked_at.0 f h) in
      no_stream us b.whole f.at f.reason b.stream k.0

  not_spent : most_bytes ≤ length content → ⊥
  not_spent h = let n = ap length part.1 in let s = b.short in omega (arith, h, n, s, length-append content part.0)

  all_begin : BeginWith us b.whole
  all_begin = record { front = b.whole; rest = []; stream = b.stream; spelled = sym (append-nil b.whole) }

  not_refused : (r : ReplicaView) (vs : List UpdateView) (q m : ReplicaView) (end : SyncEnd) → Learns r vs q → Learns r us m → IsRefused vs content q end → ⊥
  not_refused r vs q m end h k x = elim (begins_compare (vs ++ x.update ∷ []) us b.whole there all_begin) [ inl z ↦ taken z.0 z.1 | inr z ↦ stream_stops us z.0 z.1 b.whole b.stream (subst (λ t. BeginWith t b.whole) z.2 there) ]
    where
      there : BeginWith (vs ++ x.update ∷ []) b.whole
      there = subst (BeginWith (vs ++ x.update ∷ [])) (sym looked_at.1) (begins_more (vs ++ x.update ∷ []) (seen content) looked_at.0 x.begins)

      taken : (ws : List UpdateView) → us ≡ (vs ++ x.update ∷ []) ++ ws → ⊥
      taken ws e =
          let n = learns_next r vs x.update ws q m h (subst (λ t. Learns r t m) (e ∙ append_assoc vs (x.update ∷ []) ws) k) in
          let c : None ≡ Some end = sym n ∙ x.refuses in
          cc

breaks_fine : (said : Said) (us : List UpdateView) (r : ReplicaView) (vs : List UpdateView) (q m : ReplicaView) (kind : BodyKind) (passed rest content : List ℕ) (end : SyncEnd) → Body us kind passed rest (left_of said) content → HasData kind content passed
    → Learns r vs q → Learns r us m → EndsHearing (IsCut kind content passed rest said.left) kind passed rest content vs q end → failing end ≡ nothing_failed → IsFine end
breaks_fine said us r vs q m kind passed rest content ends.Cut b c l k h f = absurd (cut h.1)
  where
    cut : IsCut kind content passed rest said.left → ⊥
    cut (inl x) = x.1.no_stream us (not_over us kind passed rest (left_of said) content b c x.0.is)
    cut (inr x) = not_cut_off us kind passed rest (left_of said) content b c said.left refl x
breaks_fine said us r vs q m kind passed rest content (ends.BadHead BadChunk) b c l k h f = absurd (not_against us kind passed rest (left_of said) content b c h.1)
breaks_fine said us r vs q m kind passed rest content (ends.BadStream x) b c l k h f = absurd (not_faulty us kind passed rest (left_of said) content b c vs x h)
breaks_fine said us r vs q m kind passed rest content (ends.Clash v) b c l k h f = absurd (not_refused us kind passed rest (left_of said) content b c r vs q m (ends.Clash v) l k h)
breaks_fine said us r vs q m kind passed rest content (ends.UnknownParent v) b c l k h f = absurd (not_refused us kind passed rest (left_of said) content b c r vs q m (ends.UnknownParent v) l k h)
breaks_fine said us r vs q m kind passed rest content (ends.OutOfRange n len) b c l k h f = absurd (not_refused us kind passed rest (left_of said) content b c r vs q m (ends.OutOfRange n len) l k h)
breaks_fine said us r vs q m kind passed rest content (ends.Full which limit) b c l k h f = absurd (not_refused us kind passed rest (left_of said) content b c r vs q m (ends.Full which limit) l k h)
breaks_fine said us r vs q m kind passed rest content ends.ReadFault b c l k h f = absurd (let e : read_failed ≡ nothing_failed = f in cc)
breaks_fine said us r vs q m kind passed rest content ends.Spent b c l k h f = absurd (not_spent us kind passed rest (left_of said) content b c h.1)
breaks_fine said us r vs q m kind passed rest content ends.Memory b c l k h f = inr refl
breaks_fine said us r vs q m kind passed rest content end b c l k h f = absurd h

pub follow_completes : FollowCompletes
follow_completes place count r q m said lines line n end W us text sub learns f = go (on_link place count r q (said ∷ []) lines line n end text)
  where
    go : Ways place r said q end → IsFine end
    go (is_done e) = inl e
    go (no_print e) = absurd (let k : print_failed ≡ nothing_failed = sym (ap failing e) ∙ f in cc)
    go (no_start o) = opens_fine place r said W us sub (ended end) o f
    go (breaks b) = breaks_fine said us r b.us q m b.kind b.passed b.rest b.content end (body_of place r said W us q end sub b) b.hears.comes b.hears.learns learns b.ends_so f
