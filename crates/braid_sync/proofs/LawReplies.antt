-- What was given decides which whole replies stand in it, and why the next is not the one awaited.
use Rattle.std.proofs.Common.{◌≡◌, ◌≢◌, ℕ, ◌<◌, append-nil, List, [], ◌∷◌, ◌++◌, inl, inr, ◌⊎◌, refl, ap, sym, subst, ◌∙◌, length, Option, Some, None, IsSome, arith, length-append}
use Rattle.std.proofs.lemmas.List.{append_cancel_left}
use Rattle.braid_change.specs.Updates.{UpdateView}
use Rattle.braid_stream.specs.Readers.{most_bytes}
use Rattle.braid_http.specs.declared.refusal.Refusal.{Refusal}
use Rattle.braid_http.specs.declared.refusal.Refusal.TheVariants.{BadChunk}
use Rattle.braid_http.specs.declared.response.ReplyHead.{ReplyHead}
use Rattle.braid_http.specs.declared.response.BodyKind.{BodyKind}
use Rattle.braid_http.specs.declared.response.BodyKind.TheVariants.{Length, Chunked, ToClose}
use Rattle.braid_http.specs.Bodies.{IsBody, HasBegun, IsAgainst}
use Rattle.braid_http.specs.Responses.{replied, refused, IsReplyDecided, IsReplyOpen}
use Rattle.braid_sync.specs.declared.end.SyncEnd.{SyncEnd}
use Rattle.braid_sync.specs.declared.end.SyncEnd.TheVariants as ends
use Rattle.braid_sync.specs.Talks.{nothing_failed, read_failed, write_failed}
use Rattle.braid_sync.specs.Hearing.{HasData, IsEnded, IsOver}
use Rattle.braid_sync.specs.Posting.{IsWithin, HasHead, IsReply, Acknowledges, EndsReply}
use Rattle.braid_sync.specs.Syncs.{failing}
use Rattle.braid_sync.proofs.LawFronts.{same_both}
use Rattle.braid_sync.proofs.LawData.{data_grows, IsLast, last_of_all, last_against, last_whole, against_last, not_whole_and_against, not_begun_and_against, not_begun_and_whole}
use Rattle.braid_sync.proofs.LawOpening.{one_decided, not_open, head_or_refusal, one_head}

-- a source that tells what it has left, and has ended, has nothing behind
told_end : (rest : List ℕ) (left : Option (List ℕ)) → IsSome left → IsEnded rest left → rest ≡ []
told_end rest None t h = absurd (cc)
told_end rest (Some xs) t h = h.1

-- nothing comes behind a body that is over
pub over_last : (kind : BodyKind) (content passed rest : List ℕ) (left : Option (List ℕ)) → IsSome left → IsOver kind content passed rest left → IsLast kind passed rest
over_last ToClose content passed rest left t h = last_of_all ToClose passed rest (told_end rest left t (h.ended refl))
over_last (Length n) content passed rest left t h = last_whole (Length n) content passed rest (λ e. cc) h.is
over_last Chunked content passed rest left t h = last_whole Chunked content passed rest (λ e. cc) h.is

-- the body of a reply is read to its end at one place
over_same : (kind : BodyKind) (c p r d q s : List ℕ) (left : Option (List ℕ)) → IsSome left → p ++ r ≡ q ++ s → IsOver kind c p r left → IsOver kind d q s left → p ≡ q
over_same kind c p r d q s left t e h k =
    let i = over_last kind c p r left t h d q s (inr (inl k.is)) (sym e) in
    let j = over_last kind d q s left t k c p r (inr (inl h.is)) e in
    same_both p q j.0 i.0 j.1 i.1

-- the bytes begin with one whole reply
pub one_reply_there : (status other : ℕ) (bytes r s : List ℕ) (left : Option (List ℕ)) → IsSome left → IsReply status bytes r left → IsReply other bytes s left → (status ≡ other) × (r ≡ s)
one_reply_there status other bytes r s left t h k =
    let z = one_head h.head k.head bytes h.has.behind k.has.behind h.has.decided k.has.decided in
    let behind : h.passed ++ r ≡ k.passed ++ s = sym h.has.split ∙ z.1 ∙ k.has.split in
    let p = over_same k.head.body h.content h.passed r k.content k.passed s left t behind (subst (λ (x : ReplyHead). IsOver x.body h.content h.passed r left) z.0 h.over) k.over in
    (h.status_is ∙ ap (λ (x : ReplyHead). x.status) z.0 ∙ sym k.status_is, append_cancel_left h.passed r s (behind ∙ ap (λ x. x ++ s) (sym p)))

-- acknowledgements end at one place
pub acknowledged_same : (us : List UpdateView) (bytes r s : List ℕ) (left : Option (List ℕ)) → IsSome left → Acknowledges us bytes r left → Acknowledges us bytes s left → r ≡ s
acknowledged_same [] bytes r s left t h k = sym h ∙ k
acknowledged_same (u ∷ us) bytes r s left t h k =
    let z = (one_reply_there 200 200 bytes h.0 k.0 left t h.1 k.1).1 in
    acknowledged_same us k.0 r s left t (subst (λ x. Acknowledges us x r left) z h.2) k.2

-- behind some acknowledgements stands the next
pub acknowledged_next : (us : List UpdateView) (w : UpdateView) (ws : List UpdateView) (bytes r s : List ℕ) (left : Option (List ℕ)) → IsSome left → Acknowledges us bytes r left → Acknowledges (us ++ w ∷ ws) bytes s left
    → (more : List ℕ) × IsReply 200 r more left
acknowledged_next [] w ws bytes r s left t h k = (k.0, subst (λ x. IsReply 200 x k.0 left) h k.1)
acknowledged_next (u ∷ us) w ws bytes r s left t h k =
    let z = (one_reply_there 200 200 bytes h.0 k.0 left t h.1 k.1).1 in
    acknowledged_next us w ws k.0 r s left t (subst (λ x. Acknowledges us x r left) z h.2) k.2

-- how the body of a reply ends that is not the one awaited
data InBody (kind : BodyKind) (content passed rest : List ℕ) : SyncEnd → Type 0 where
  cut_in : kind ≢ ToClose → HasBegun kind content passed → rest ≡ [] → length content < most_bytes → InBody kind content passed rest ends.Cut
  bad_in : IsAgainst kind content passed → length content < most_bytes → InBody kind content passed rest (ends.BadHead BadChunk)
  failed_in : InBody kind content passed rest ends.ReadFault
  spent_in : HasBegun kind content passed → length content ≡ most_bytes → InBody kind content passed rest ends.Spent

-- why the next reply is not the one awaited
data WhyReply (bytes : List ℕ) (left : Option (List ℕ)) (end : SyncEnd) : Type 0 where
  undecided : IsReplyOpen bytes → (end ≡ ends.Cut) ⊎ (end ≡ ends.ReadFault) → WhyReply bytes left end
  refused_head : (f : Refusal) (rest : List ℕ) → IsReplyDecided (refused f) bytes rest → end ≡ ends.BadHead f → WhyReply bytes left end
  other_status : (status : ℕ) (rest : List ℕ) → status ≢ 200 → IsReply status bytes rest left → end ≡ ends.Peer status → WhyReply bytes left end
  within : (head : ReplyHead) (passed rest content : List ℕ) → HasHead head bytes passed rest → InBody head.body content passed rest end → WhyReply bytes left end

why_reply : (end : SyncEnd) (bytes : List ℕ) (left : Option (List ℕ)) → EndsReply end bytes left → WhyReply bytes left end
why_reply ends.Cut bytes left (inl h) = undecided h.0 (inl refl)
why_reply ends.Cut bytes left (inr h) = within h.head h.passed h.rest h.content h.has (cut_in h.holds.0.framed h.holds.0.begun h.holds.0.behind h.holds.1)
why_reply (ends.Peer status) bytes left h = other_status status h.1 h.0 h.2 refl
why_reply (ends.BadHead f) bytes left (inl h) = refused_head f h.0 h.1 refl
why_reply (ends.BadHead f) bytes left (inr h) =
    within h.1.head h.1.passed h.1.rest h.1.content h.1.has (subst (λ x. InBody h.1.head.body h.1.content h.1.passed h.1.rest (ends.BadHead x)) (sym h.0) (bad_in h.1.holds.0 h.1.holds.1))
why_reply ends.ReadFault bytes left (inl h) = undecided h (inr refl)
why_reply ends.ReadFault bytes left (inr h) = within h.head h.passed h.rest h.content h.has failed_in
why_reply ends.Spent bytes left h = within h.head h.passed h.rest h.content h.has (spent_in h.holds.0 h.holds.1)
why_reply end bytes left h = absurd h

-- what has come of a body that is over is no more than all of it
no_longer : (kind : BodyKind) (c p r d q s : List ℕ) (left : Option (List ℕ)) → IsSome left → p ++ r ≡ q ++ s → IsOver kind c p r left → HasData kind d q → (y : List ℕ) × (c ≡ d ++ y)
no_longer kind c p r d q s left t e h k = let i = over_last kind c p r left t h d q s k (sym e) in data_grows kind d q c p i.0 k (inr (inl h.is)) i.1

not_spent : (kind : BodyKind) (c p d q y : List ℕ) → IsBody kind c p → IsWithin kind c → HasBegun kind d q → c ≡ d ++ y → length d ≡ most_bytes → ⊥
not_spent (Length n) c p d q y h w k e m = let a = h.1 in let b = ap length h.0 in let f = k.1 in let g = ap length k.0 in let z = ap length e in omega (arith, a, b, f, g, z, w, m, length-append d y)
not_spent Chunked c p d q y h w k e m = let z = ap length e in omega (arith, z, w, m, length-append d y)
not_spent ToClose c p d q y h w k e m = let z = ap length e in omega (arith, z, w, m, length-append d y)

-- within a body that is over there is no end but that a read failed
over_or_in : (kind : BodyKind) (c p r d q s : List ℕ) (left : Option (List ℕ)) (end : SyncEnd) → IsSome left → p ++ r ≡ q ++ s → IsOver kind c p r left → IsWithin kind c → InBody kind d q s end → end ≡ ends.ReadFault
over_or_in kind c p r d q s left _ t e h w (cut_in f b z m) = absurd (not_begun_and_whole kind c d p r q f h.is b (sym (e ∙ ap (λ x. q ++ x) z ∙ append-nil q)))
over_or_in kind c p r d q s left _ t e h w (bad_in a m) =
    let i = over_last kind c p r left t h d q s (inr (inr a)) (sym e) in
    let j = last_against kind d q s a c p r (inr (inl h.is)) e in
    absurd (not_whole_and_against kind c d q (subst (IsBody kind c) (same_both p q j.0 i.0 j.1 i.1) h.is) a)
over_or_in kind c p r d q s left _ t e h w failed_in = refl
over_or_in kind c p r d q s left _ t e h w (spent_in b m) =
    let y = no_longer kind c p r d q s left t e h (inl b) in
    absurd (not_spent kind c p d q y.0 h.is w b y.1 m)

whole_or_in : (status : ℕ) (bytes rest : List ℕ) (left : Option (List ℕ)) (head : ReplyHead) (content passed more : List ℕ) (end : SyncEnd) → IsSome left → IsReply status bytes rest left → HasHead head bytes passed more
    → InBody head.body content passed more end → end ≡ ends.ReadFault
whole_or_in status bytes rest left head content passed more end t h k b =
    let z = one_head h.head head bytes h.has.behind k.behind h.has.decided k.decided in
    over_or_in head.body h.content h.passed rest content passed more left end t (sym h.has.split ∙ z.1 ∙ k.split) (subst (λ (x : ReplyHead). IsOver x.body h.content h.passed rest left) z.0 h.over)
    (subst (λ (x : ReplyHead). IsWithin x.body h.content) z.0 h.within) b

-- a reply that acknowledges is not one that ends a sync, but where a read failed
pub taken_or_end : (bytes rest : List ℕ) (left : Option (List ℕ)) (end : SyncEnd) → IsSome left → IsReply 200 bytes rest left → EndsReply end bytes left → end ≡ ends.ReadFault
taken_or_end bytes rest left end t h k = go (why_reply end bytes left k)
  where
    go : WhyReply bytes left end → end ≡ ends.ReadFault
    go (undecided o e) = absurd (not_open (replied h.head) bytes h.has.behind o h.has.decided)
    go (refused_head f r d e) = absurd (head_or_refusal h.head f bytes h.has.behind r h.has.decided d)
    go (other_status status r n k e) = absurd (n (one_reply_there status 200 bytes r rest left t k h).0)
    go (within head passed r content k b) = whole_or_in 200 bytes rest left head content passed r end t h k b

either_one : (end stop : SyncEnd) → (end ≡ ends.Cut) ⊎ (end ≡ ends.ReadFault) → (stop ≡ ends.Cut) ⊎ (stop ≡ ends.ReadFault) → failing end ≡ failing stop → end ≡ stop
either_one end stop (inl e) (inl s) f = e ∙ sym s
either_one end stop (inl e) (inr s) f = let k : nothing_failed ≡ read_failed = sym (ap failing e) ∙ f ∙ ap failing s in absurd (cc)
either_one end stop (inr e) (inl s) f = let k : read_failed ≡ nothing_failed = sym (ap failing e) ∙ f ∙ ap failing s in absurd (cc)
either_one end stop (inr e) (inr s) f = e ∙ sym s

-- a body is not cut and against its bytes
not_cut_and_bad : (kind : BodyKind) (c p d q s : List ℕ) → p ≡ q ++ s → HasBegun kind c p → IsAgainst kind d q → ⊥
not_cut_and_bad kind c p d q s e b a =
    let z = against_last kind d q c p s a (inl b) e in
    not_begun_and_against kind c d p b (subst (IsAgainst kind d) (sym (e ∙ ap (λ x. q ++ x) z ∙ append-nil q)) a)

short_or_spent : (c d y : List ℕ) → c ≡ d ++ y → length c < most_bytes → length d ≡ most_bytes → ⊥
short_or_spent c d y e l m = let z = ap length e in omega (arith, z, l, m, length-append d y)

all_given : (p r q s : List ℕ) → p ++ r ≡ q ++ s → r ≡ [] → p ≡ q ++ s
all_given p r q s e z = sym (ap (λ x. p ++ x) z ∙ append-nil p) ∙ e

-- a body ends in one way
in_one : (kind : BodyKind) (c p r d q s : List ℕ) (end stop : SyncEnd) → p ++ r ≡ q ++ s → InBody kind c p r end → InBody kind d q s stop → failing end ≡ failing stop → end ≡ stop
in_one kind c p r d q s _ _ e (cut_in f b z m) (cut_in g h y n) w = refl
in_one kind c p r d q s _ _ e (cut_in f b z m) (bad_in a n) w = absurd (not_cut_and_bad kind c p d q s (all_given p r q s e z) b a)
in_one kind c p r d q s _ _ e (cut_in f b z m) failed_in w = absurd (cc)
in_one kind c p r d q s _ _ e (cut_in f b z m) (spent_in h n) w =
    let y = data_grows kind d q c p s (inl h) (inl b) (all_given p r q s e z) in absurd (short_or_spent c d y.0 y.1 m n)
in_one kind c p r d q s _ _ e (bad_in a m) (cut_in g h y n) w = absurd (not_cut_and_bad kind d q c p r (all_given q s p r (sym e) y) h a)
in_one kind c p r d q s _ _ e (bad_in a m) (bad_in b n) w = refl
in_one kind c p r d q s _ _ e (bad_in a m) failed_in w = absurd (cc)
in_one kind c p r d q s _ _ e (bad_in a m) (spent_in h n) w =
    let i = last_against kind c p r a d q s (inl h) (sym e) in
    let y = data_grows kind d q c p i.0 (inl h) (inr (inr a)) i.1 in
    absurd (short_or_spent c d y.0 y.1 m n)
in_one kind c p r d q s _ _ e failed_in (cut_in g h y n) w = absurd (cc)
in_one kind c p r d q s _ _ e failed_in (bad_in b n) w = absurd (cc)
in_one kind c p r d q s _ _ e failed_in failed_in w = refl
in_one kind c p r d q s _ _ e failed_in (spent_in h n) w = absurd (cc)
in_one kind c p r d q s _ _ e (spent_in b m) (cut_in g h y n) w =
    let z = data_grows kind c p d q r (inl b) (inl h) (all_given q s p r (sym e) y) in absurd (short_or_spent d c z.0 z.1 n m)
in_one kind c p r d q s _ _ e (spent_in b m) (bad_in a n) w =
    let i = last_against kind d q s a c p r (inl b) e in
    let y = data_grows kind c p d q i.0 (inl b) (inr (inr a)) i.1 in
    absurd (short_or_spent d c y.0 y.1 n m)
in_one kind c p r d q s _ _ e (spent_in b m) failed_in w = absurd (cc)
in_one kind c p r d q s _ _ e (spent_in b m) (spent_in h n) w = refl

status_quiet : (status : ℕ) (end stop : SyncEnd) → end ≡ ends.Peer status → stop ≡ ends.ReadFault → failing end ≡ failing stop → ⊥
status_quiet status end stop e s f = let k : nothing_failed ≡ read_failed = sym (ap failing e) ∙ f ∙ ap failing s in cc

-- the next reply is not the one awaited for one reason
pub one_end : (bytes : List ℕ) (left : Option (List ℕ)) (end stop : SyncEnd) → IsSome left → EndsReply end bytes left → EndsReply stop bytes left → failing end ≡ failing stop → end ≡ stop
one_end bytes left end stop t h k f = go (why_reply end bytes left h) (why_reply stop bytes left k)
  where
    go : WhyReply bytes left end → WhyReply bytes left stop → end ≡ stop
    go (undecided o e) (undecided p s) = either_one end stop e s f
    go (undecided o e) (refused_head g r d s) = absurd (not_open (refused g) bytes r o d)
    go (undecided o e) (other_status status r n k s) = absurd (not_open (replied k.head) bytes k.has.behind o k.has.decided)
    go (undecided o e) (within head p r c k b) = absurd (not_open (replied head) bytes k.behind o k.decided)
    go (refused_head g r d e) (undecided o s) = absurd (not_open (refused g) bytes r o d)
    go (refused_head g r d e) (refused_head i q c s) = let z = (one_decided (refused g) (refused i) bytes r q d c).0 in let y : g ≡ i = cc in e ∙ ap ends.BadHead y ∙ sym s
    go (refused_head g r d e) (other_status status q n k s) = absurd (head_or_refusal k.head g bytes k.has.behind r k.has.decided d)
    go (refused_head g r d e) (within head p q c k b) = absurd (head_or_refusal head g bytes k.behind r k.decided d)
    go (other_status status r n k e) (undecided o s) = absurd (not_open (replied k.head) bytes k.has.behind o k.has.decided)
    go (other_status status r n k e) (refused_head g q d s) = absurd (head_or_refusal k.head g bytes k.has.behind q k.has.decided d)
    go (other_status status r n k e) (other_status other q m l s) = e ∙ ap ends.Peer (one_reply_there status other bytes r q left t k l).0 ∙ sym s
    go (other_status status r n k e) (within head p q c l b) = absurd (status_quiet status end stop e (whole_or_in status bytes r left head c p q stop t k l b) f)
    go (within head p q c l b) (undecided o s) = absurd (not_open (replied head) bytes l.behind o l.decided)
    go (within head p q c l b) (refused_head g r d s) = absurd (head_or_refusal head g bytes l.behind r l.decided d)
    go (within head p q c l b) (other_status status r n k s) = absurd (status_quiet status stop end s (whole_or_in status bytes r left head c p q end t k l b) (sym f))
    go (within head p q c l b) (within other u v d m x) =
        let z = one_head head other bytes l.behind m.behind l.decided m.decided in
        in_one other.body c p q d u v end stop (sym l.split ∙ z.1 ∙ m.split) (subst (λ (y : ReplyHead). InBody y.body c p q end) z.0 b) x f

-- a reply that ends a sync is no failed write
pub reply_writes : (bytes : List ℕ) (left : Option (List ℕ)) (end : SyncEnd) → EndsReply end bytes left → failing end ≡ write_failed → ⊥
reply_writes bytes left ends.Cut h f = cc
reply_writes bytes left (ends.Peer status) h f = cc
reply_writes bytes left (ends.BadHead x) h f = cc
reply_writes bytes left ends.ReadFault h f = cc
reply_writes bytes left ends.Spent h f = cc
reply_writes bytes left end h f = h
