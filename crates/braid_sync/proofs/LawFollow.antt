-- What was given and which call failed decide a follow and its lines.
use Rattle.std.proofs.Common.{◌≡◌, ◌≢◌, ℕ, ◌≤◌, ◌<◌, append-nil, List, [], ◌∷◌, ◌++◌, inl, inr, ◌⊎◌, refl, ap, sym, subst, ◌∙◌, length, Option, Some, IsSome, arith, length-append}
use Rattle.braid_change.specs.Updates.{UpdateView}
use Rattle.braid_grammar.specs.Streams.{IsStream}
use Rattle.braid_grammar.proofs.Law.{no_stream}
use Rattle.braid_grammar.proofs.Completed.{stream_completes}
use Rattle.braid_http.specs.declared.response.BodyKind.{BodyKind}
use Rattle.braid_http.specs.Bodies.{IsBody, HasBegun}
use Rattle.braid_outbox.specs.declared.learn.Learn.{Learn}
use Rattle.braid_outbox.specs.declared.learn.Learn.TheVariants as answers
use Rattle.braid_outbox.specs.Replicas.{ReplicaView}
use Rattle.braid_sync.specs.declared.place.Place.{Place}
use Rattle.braid_sync.specs.declared.end.SyncEnd.{SyncEnd}
use Rattle.braid_sync.specs.declared.end.SyncEnd.TheVariants as ends
use Rattle.braid_sync.specs.Talks.{Said, nothing_failed, print_failed}
use Rattle.braid_sync.specs.Learning.{refusal_end, answer_to, Learns}
use Rattle.braid_sync.specs.Hearing.{HasData, seen, BeginWith, Hears, HaveAll, EndsHearing}
use Rattle.braid_sync.specs.Syncs.{failing}
use Rattle.braid_sync.specs.Follows.{line_of, lines_of, IsCut, IsWholeStream, IsUnprinted, FollowText, unreached, unaided, not_begun, counted, heard_out, broken_off, unprinted}
use Rattle.braid_sync.specs.Laws.{IsTold, OneFollow}
use Rattle.braid_sync.proofs.LawData.{data_grows, IsLast, not_whole_and_against, not_begun_and_whole, one_data}
use Rattle.braid_sync.proofs.LawFronts.{same_both}
use Rattle.braid_sync.proofs.LawHearing.{Why, at_last, by_data, ByData, at_fault, refused, spent, AtLast, cut_there, bad_there, failed_there, why, Two, two_of, two_back, Order, same, more, fewer, orders, same_end, not_by_data, next_one, learns_same, learns_no_more}
use Rattle.braid_sync.proofs.LawOpening.{Fails, opens_as, no_fail, one_fail}
use Rattle.braid_sync.proofs.LawReplies.{over_last}
use Rattle.braid_sync.proofs.LawSame.{one_said, alike_back}
use Rattle.braid_sync.proofs.LawSubscribed.{cut_last, Heard, heard_same}

-- how a follow of a body ended, in which these updates were learnt
data How (count : ℕ) (kind : BodyKind) (content passed rest : List ℕ) (left : Option (List ℕ)) (us : List UpdateView) (p : ReplicaView) (line : List ℕ) (q : ReplicaView) (end : SyncEnd) : Type 0 where
  by_count : length us ≡ count → line ≡ [] → q ≡ p → end ≡ ends.Done → How count kind content passed rest left us p line q end
  by_body : length us < count → IsWholeStream kind content passed rest left us → line ≡ [] → q ≡ p → end ≡ ends.Done → How count kind content passed rest left us p line q end
  by_end : length us < count → Why kind content passed rest us p end → (end ≡ ends.Cut → IsCut kind content passed rest left) → line ≡ [] → q ≡ p → How count kind content passed rest left us p line q end
  by_print : length us < count → IsUnprinted us content p q line → end ≡ ends.OutFault → How count kind content passed rest left us p line q end

-- a follow of a body
record Reads (count : ℕ) (left : Option (List ℕ)) (r : ReplicaView) (lines : List ℕ) (n : ℕ) (line : List ℕ) (q : ReplicaView) (end : SyncEnd) (kind : BodyKind) (V : List (List ℕ)) (behind : List ℕ) : Type 0 where
  passed : List ℕ
  rest : List ℕ
  content : List ℕ
  us : List UpdateView
  p : ReplicaView
  hears : Hears kind behind r passed rest content us p
  lines_are : lines ≡ lines_of r us
  number : n ≡ length us
  how : How count kind content passed rest left us p line q end

refusal_quiet : (a : Learn) (end : SyncEnd) → refusal_end a ≡ Some end → failing end ≡ nothing_failed
refusal_quiet answers.New end h = absurd (cc)
refusal_quiet answers.Confirmed end h = absurd (cc)
refusal_quiet answers.Known end h = absurd (cc)
refusal_quiet (answers.Clash v) end h = let k : ends.Clash v ≡ end = cc in ap failing (sym k)
refusal_quiet (answers.UnknownParent v) end h = let k : ends.UnknownParent v ≡ end = cc in ap failing (sym k)
refusal_quiet (answers.OutOfRange patch len) end h = let k : ends.OutOfRange patch len ≡ end = cc in ap failing (sym k)
refusal_quiet (answers.Full which limit) end h = let k : ends.Full which limit ≡ end = cc in ap failing (sym k)
refusal_quiet answers.Memory end h = let k : ends.Memory ≡ end = cc in ap failing (sym k)

-- the reading of a body ends by no failed print
last_prints : (kind : BodyKind) (content passed : List ℕ) (end : SyncEnd) → AtLast kind content passed end → failing end ≡ print_failed → ⊥
last_prints kind content passed _ (cut_there h) f = cc
last_prints kind content passed _ (bad_there h) f = cc
last_prints kind content passed _ failed_there f = cc

data_prints : (content : List ℕ) (us : List UpdateView) (q : ReplicaView) (end : SyncEnd) → ByData content us q end → failing end ≡ print_failed → ⊥
data_prints content us q end (at_fault x h e) f = let k : nothing_failed ≡ print_failed = sym (ap failing e) ∙ f in cc
data_prints content us q end (refused w h e) f = let k : nothing_failed ≡ print_failed = sym (refusal_quiet (answer_to q w) end e) ∙ f in cc
data_prints content us q end (spent h m e) f = let k : nothing_failed ≡ print_failed = sym (ap failing e) ∙ f in cc

why_prints : (kind : BodyKind) (content passed rest : List ℕ) (us : List UpdateView) (q : ReplicaView) (end : SyncEnd) → Why kind content passed rest us q end → failing end ≡ print_failed → ⊥
why_prints kind content passed rest us q end (at_last a l x) f = last_prints kind content passed end x f
why_prints kind content passed rest us q end (by_data x) f = data_prints content us q end x f

done_prints : (end : SyncEnd) → end ≡ ends.Done → failing end ≡ print_failed → ⊥
done_prints end e f = let k : nothing_failed ≡ print_failed = sym (ap failing e) ∙ f in cc

-- all updates of a whole stream are learnt, and nothing comes behind it
whole_all : (kind : BodyKind) (content passed rest : List ℕ) (left : Option (List ℕ)) (us : List UpdateView) → IsWholeStream kind content passed rest left us → HaveAll us content
whole_all kind content passed rest left us w = record { have = record { completes = stream_completes us content w.stream; faultless = λ at reason f. no_stream us content at reason w.stream f }; short = w.short }

whole_why : (kind : BodyKind) (content passed rest : List ℕ) (left : Option (List ℕ)) (us : List UpdateView) (q : ReplicaView) → IsSome left → IsWholeStream kind content passed rest left us → Why kind content passed rest us q ends.Cut
whole_why kind content passed rest left us q t w = at_last (whole_all kind content passed rest left us w) (over_last kind content passed rest left t w.over) (cut_there (inl w.over.is))

module _ (count : ℕ) (kind : BodyKind) (content passed rest : List ℕ) (left : Option (List ℕ)) (us : List UpdateView) (p : ReplicaView) (line : List ℕ) (q : ReplicaView) (end : SyncEnd) where
  at_most : How count kind content passed rest left us p line q end → length us ≤ count
  at_most (by_count n l e d) = omega (arith, n)
  at_most (by_body n w l e d) = omega (arith, n)
  at_most (by_end n w c l e) = omega (arith, n)
  at_most (by_print n u d) = omega (arith, n)

  out_fault : How count kind content passed rest left us p line q end → failing end ≡ print_failed → end ≡ ends.OutFault
  out_fault (by_count n l e d) f = absurd (done_prints end d f)
  out_fault (by_body n w l e d) f = absurd (done_prints end d f)
  out_fault (by_end n w c l e) f = absurd (why_prints kind content passed rest us p end w f)
  out_fault (by_print n u d) f = d

  -- a follow learnt no more than another, but for lines that were printed
  no_more_learnt : (behind : List ℕ) (r : ReplicaView) (e d t : List ℕ) (vs : List UpdateView) (m : ReplicaView) (w : UpdateView) (ws : List UpdateView) → IsSome left → Hears kind behind r passed rest content us p → Hears kind behind r e t d vs m
      → How count kind content passed rest left us p line q end → length vs ≤ count → (end ≡ ends.OutFault → length us ≡ length vs) → vs ≡ us ++ w ∷ ws → ⊥
  no_more_learnt behind r e d t vs m w ws told h k (by_count n l z x) few same_number is = let s = ap length is in omega (arith, s, n, few, length-append us (w ∷ ws))
  no_more_learnt behind r e d t vs m w ws told h k (by_body n y l z x) few same_number is = learns_no_more kind behind r passed rest content e t d us vs p m ends.Cut w ws h k (whole_why kind content passed rest left us p told y) is
  no_more_learnt behind r e d t vs m w ws told h k (by_end n y c l z) few same_number is = learns_no_more kind behind r passed rest content e t d us vs p m end w ws h k y is
  no_more_learnt behind r e d t vs m w ws told h k (by_print n u x) few same_number is = let s = ap length is in let z = same_number x in omega (arith, s, z, length-append us (w ∷ ws))

-- a body whose data is a stream does not end otherwise
last_or_whole : (kind : BodyKind) (c a x d b y : List ℕ) (left : Option (List ℕ)) (us : List UpdateView) (stop : SyncEnd) → Two kind c a x d b y → IsWholeStream kind c a x left us → AtLast kind d b stop → (stop ≡ ends.Cut → IsCut kind d b y left)
    → a ≡ b → failing stop ≡ nothing_failed → ⊥
last_or_whole kind c a x d b y left us _ t w (cut_there h) cut e f = torn (cut refl)
  where
    torn : IsCut kind d b y left → ⊥
    torn (inl h) = h.1.no_stream us (subst (IsStream us) (one_data kind c d b (subst (HasData kind c) e t.first) t.second) w.stream)
    torn (inr h) = not_begun_and_whole kind c d a [] b h.framed w.over.is h.begun (sym e ∙ sym (append-nil a))
last_or_whole kind c a x d b y left us _ t w (bad_there h) cut e f = not_whole_and_against kind c d b (subst (IsBody kind c) e w.over.is) h
last_or_whole kind c a x d b y left us _ t w failed_there cut e f = cc

whole_or_why : (kind : BodyKind) (c a x d b y : List ℕ) (left : Option (List ℕ)) (us : List UpdateView) (p : ReplicaView) (stop : SyncEnd) → IsSome left → Two kind c a x d b y → IsWholeStream kind c a x left us → Why kind d b y us p stop
    → (stop ≡ ends.Cut → IsCut kind d b y left) → failing stop ≡ nothing_failed → ⊥
whole_or_why kind c a x d b y left us p stop told t w (by_data z) cut f =
    let i = over_last kind c a x left told w.over d b y t.second (sym t.given) in
    let g = data_grows kind d b c a i.0 t.second t.first i.1 in
    not_by_data c d g.0 us p stop (whole_all kind c a x left us w) g.1 z
whole_or_why kind c a x d b y left us p stop told t w (at_last z l k) cut f =
    let i = over_last kind c a x left told w.over d b y t.second (sym t.given) in
    let j = l c a x t.first t.given in
    last_or_whole kind c a x d b y left us stop t w k cut (same_both a b j.0 i.0 j.1 i.1) f

-- the next update of two readings is one
same_update : (kind : BodyKind) (c a x d b y : List ℕ) (us : List UpdateView) (v w : UpdateView) → Two kind c a x d b y → BeginWith (us ++ v ∷ []) (seen c) → BeginWith (us ++ w ∷ []) (seen d) → v ≡ w
same_update kind c a x d b y us v w t h k = next_one kind c a x d b y us v w t h k

module _ (count : ℕ) (kind : BodyKind) (left : Option (List ℕ)) (us : List UpdateView) (p : ReplicaView) (c a x d b y : List ℕ) (line text : List ℕ) (q m : ReplicaView) (end stop : SyncEnd) where
  how_one : IsSome left → Two kind c a x d b y → failing end ≡ failing stop → How count kind c a x left us p line q end → How count kind d b y left us p text m stop → (q ≡ m) × (end ≡ stop) × (line ≡ text)
  how_one told t f (by_count n l e s) (by_count k z g h) = (e ∙ sym g, s ∙ sym h, l ∙ sym z)
  how_one told t f (by_count n l e s) (by_body k w z g h) = absurd (omega (arith, n, k))
  how_one told t f (by_count n l e s) (by_end k w i z g) = absurd (omega (arith, n, k))
  how_one told t f (by_count n l e s) (by_print k u h) = absurd (omega (arith, n, k))
  how_one told t f (by_body n w l e s) (by_count k z g h) = absurd (omega (arith, n, k))
  how_one told t f (by_body n w l e s) (by_body k v z g h) = (e ∙ sym g, s ∙ sym h, l ∙ sym z)
  how_one told t f (by_body n w l e s) (by_end k v i z g) = absurd (whole_or_why kind c a x d b y left us p stop told t w v i (sym f ∙ ap failing s))
  how_one told t f (by_body n w l e s) (by_print k u h) = absurd (done_prints end s (f ∙ ap failing h))
  how_one told t f (by_end n w i l e) (by_count k z g h) = absurd (omega (arith, n, k))
  how_one told t f (by_end n w i l e) (by_body k v z g h) = absurd (whole_or_why kind d b y c a x left us p end told (two_back kind c a x d b y t) v w i (f ∙ ap failing h))
  how_one told t f (by_end n w i l e) (by_end k v j z g) = (e ∙ sym g, same_end kind c a x d b y us p end stop t w v f, l ∙ sym z)
  how_one told t f (by_end n w i l e) (by_print k u h) = absurd (why_prints kind c a x us p end w (f ∙ ap failing h))
  how_one told t f (by_print n u s) (by_count k z g h) = absurd (omega (arith, n, k))
  how_one told t f (by_print n u s) (by_body k v z g h) = absurd (done_prints stop h (sym f ∙ ap failing s))
  how_one told t f (by_print n u s) (by_end k v j z g) = absurd (why_prints kind d b y us p stop v (sym f ∙ ap failing s))
  how_one told t f (by_print n u s) (by_print k v h) =
      let same_one = same_update kind c a x d b y us u.update v.update t u.begins v.begins in (
        learns_same p (v.update ∷ []) q m (subst (λ (w : UpdateView). Learns p (w ∷ []) q) same_one u.learns) v.learns,
        s ∙ sym h,
        u.line_is ∙ ap (line_of p) same_one ∙ sym v.line_is,
      )

-- two follows of one body
reads_one : (count : ℕ) (left : Option (List ℕ)) (r : ReplicaView) (lines texts : List ℕ) (n k : ℕ) (line text : List ℕ) (q m : ReplicaView) (end stop : SyncEnd) (kind : BodyKind) (V : List (List ℕ)) (behind : List ℕ)
    → IsSome left → failing end ≡ failing stop → (end ≡ ends.OutFault → n ≡ k) → Reads count left r lines n line q end kind V behind → Reads count left r texts k text m stop kind V behind
    → (q ≡ m) × (end ≡ stop) × (lines ≡ texts) × (n ≡ k) × (line ≡ text)
reads_one count left r lines texts n k line text q m end stop kind V behind told f out c d = go (orders kind c.content c.passed c.rest d.content d.passed d.rest c.us d.us two c.hears.begins d.hears.begins)
  where
    two : Two kind c.content c.passed c.rest d.content d.passed d.rest
    two = two_of kind behind r c.passed c.rest c.content d.passed d.rest d.content c.us d.us c.p d.p c.hears d.hears

    few : length c.us ≤ count
    few = at_most count kind c.content c.passed c.rest left c.us c.p line q end c.how

    few_too : length d.us ≤ count
    few_too = at_most count kind d.content d.passed d.rest left d.us d.p text m stop d.how

    out_too : stop ≡ ends.OutFault → length d.us ≡ length c.us
    out_too e = sym (sym c.number ∙ out (out_fault count kind c.content c.passed c.rest left c.us c.p line q end c.how (f ∙ ap failing e)) ∙ d.number)

    go : Order c.us d.us → (q ≡ m) × (end ≡ stop) × (lines ≡ texts) × (n ≡ k) × (line ≡ text)
    go (same e) =
        let here = learns_same r d.us c.p d.p (subst (λ x. Learns r x c.p) e c.hears.learns) d.hears.learns in
        let one = subst (λ x. How count kind c.content c.passed c.rest left x c.p line q end) e c.how in
        let one_too = subst (λ (x : ReplicaView). How count kind c.content c.passed c.rest left d.us x line q end) here one in
        let z = how_one count kind left d.us d.p c.content c.passed c.rest d.content d.passed d.rest line text q m end stop told two f one_too d.how in
        (z.0, z.1, c.lines_are ∙ ap (lines_of r) e ∙ sym d.lines_are, c.number ∙ ap length e ∙ sym d.number, z.2)
    go (more w ws e) =
        absurd (no_more_learnt count kind c.content c.passed c.rest left c.us c.p line q end behind r d.passed d.content d.rest d.us d.p w ws told c.hears d.hears c.how few_too (λ z. sym c.number ∙ out z ∙ d.number) e)
    go (fewer w ws e) =
        absurd (no_more_learnt count kind d.content d.passed d.rest left d.us d.p text m stop behind r c.passed c.content c.rest c.us c.p w ws told d.hears c.hears d.how few out_too e)

-- a follow that was not begun
record Unread (place : Place) (r : ReplicaView) (said : Said) (lines : List ℕ) (n : ℕ) (line : List ℕ) (q : ReplicaView) (end : SyncEnd) : Type 0 where
  kept : q ≡ r
  no_lines : lines ≡ []
  none : n ≡ 0
  no_line : line ≡ []
  fails : Fails place r said end

-- a follow that had no link, or what it did on it
abbrev FollowAs : Place → ℕ → ReplicaView → List Said → List ℕ → ℕ → List ℕ → ReplicaView → SyncEnd → Type 0
FollowAs place count r [] lines n line q end = (q ≡ r) × (lines ≡ []) × (n ≡ 0) × (line ≡ []) × ((end ≡ ends.DialFault) ⊎ (end ≡ ends.Memory))
FollowAs place count r (said ∷ saids) lines n line q end = (saids ≡ []) × (IsTold said → end ≢ ends.Memory → Unread place r said lines n line q end ⊎ Heard place r said (Reads count said.left r lines n line q end))

cut_of : (cut : Type 0) (kind : BodyKind) (passed rest content : List ℕ) (us : List UpdateView) (q : ReplicaView) (end : SyncEnd) → EndsHearing cut kind passed rest content us q end → end ≡ ends.Cut → cut
cut_of cut kind passed rest content us q end h e = (subst (EndsHearing cut kind passed rest content us q) e h).1

cut_follow : (kind : BodyKind) (content passed rest : List ℕ) (left : Option (List ℕ)) → IsSome left → IsCut kind content passed rest left → (IsBody kind content passed ⊎ HasBegun kind content passed) × IsLast kind passed rest
cut_follow kind content passed rest left t (inl h) = cut_last kind content passed rest left t (inl h.0)
cut_follow kind content passed rest left t (inr h) = cut_last kind content passed rest left t (inr h)

follow_as : (place : Place) (count : ℕ) (r q : ReplicaView) (saids : List Said) (lines line : List ℕ) (n : ℕ) (end : SyncEnd) → FollowText place count r saids lines n line q end → FollowAs place count r saids lines n line q end
follow_as place count r _ _ _ _ _ _ unreached = (refl, refl, refl, refl, inl refl)
follow_as place count r _ _ _ _ _ _ unaided = (refl, refl, refl, refl, inr refl)
follow_as place count r _ _ _ _ _ _ (not_begun said end to o) = (refl, λ t m. inl (record { kept = refl; no_lines = refl; none = refl; no_line = refl; fails = opens_as place r said _ o m }))
follow_as place count r _ _ _ _ _ _ (counted said kind V behind passed rest content us q to o h n) = (
  refl,
  λ t m. inr (record {
    kind = kind;
    V = V;
    behind = behind;
    starts = opens_as place r said _ o;
    holds = record { passed = passed; rest = rest; content = content; us = us; p = q; hears = h; lines_are = refl; number = refl; how = by_count n refl refl refl };
  }),
)
follow_as place count r _ _ _ _ _ _ (heard_out said kind V behind passed rest content us q to o h n w) = (
  refl,
  λ t m. inr (record {
    kind = kind;
    V = V;
    behind = behind;
    starts = opens_as place r said _ o;
    holds = record { passed = passed; rest = rest; content = content; us = us; p = q; hears = h; lines_are = refl; number = refl; how = by_body n w refl refl refl };
  }),
)
follow_as place count r _ _ _ _ _ _ (broken_off said kind V behind passed rest content us q end to o h n e) = (
  refl,
  λ t m. inr (record {
    kind = kind;
    V = V;
    behind = behind;
    starts = opens_as place r said _ o;
    holds = record {
      passed = passed;
      rest = rest;
      content = content;
      us = us;
      p = q;
      hears = h;
      lines_are = refl;
      number = refl;
      how = by_end n (why (IsCut kind content passed rest said.left) kind passed rest content us q end (λ k. cut_follow kind content passed rest said.left t k) m e) (cut_of (IsCut kind content passed rest said.left) kind passed rest content us q end e) refl refl;
    };
  }),
)
follow_as place count r _ _ _ _ _ _ (unprinted said kind V behind passed rest content line us p q to o h n u) = (
  refl,
  λ t m. inr (record {
    kind = kind;
    V = V;
    behind = behind;
    starts = opens_as place r said _ o;
    holds = record { passed = passed; rest = rest; content = content; us = us; p = p; hears = h; lines_are = refl; number = refl; how = by_print n u refl };
  }),
)

abbrev Same : List Said → List Said → ReplicaView → ReplicaView → SyncEnd → SyncEnd → List ℕ → List ℕ → ℕ → ℕ → List ℕ → List ℕ → Type 0
Same saids others q m end stop lines texts n k line text = (saids ≡ others) × (q ≡ m) × (end ≡ stop) × (lines ≡ texts) × (n ≡ k) × (line ≡ text)

one_dial : (end stop : SyncEnd) → end ≢ ends.Memory → stop ≢ ends.Memory → (end ≡ ends.DialFault) ⊎ (end ≡ ends.Memory) → (stop ≡ ends.DialFault) ⊎ (stop ≡ ends.Memory) → end ≡ stop
one_dial end stop n o (inl e) (inl f) = e ∙ sym f
one_dial end stop n o (inl e) (inr f) = absurd (o f)
one_dial end stop n o (inr e) f = absurd (n e)

one_link : (s t : Said) (ss ts : List Said) → s ≡ t → ss ≡ [] → ts ≡ [] → s ∷ ss ≡ t ∷ ts
one_link s t ss ts e f g = let h = f ∙ sym g in λ i. e i ∷ h i

pub one_follow : OneFollow
one_follow place count r q m [] [] lines texts line text n k end stop a told x y f out nm om =
    let h = follow_as place count r q [] lines line n end x in
    let i = follow_as place count r m [] texts text k stop y in
    (refl, h.0 ∙ sym i.0, one_dial end stop nm om h.4 i.4, h.1 ∙ sym i.1, h.2 ∙ sym i.2, h.3 ∙ sym i.3)
one_follow place count r q m [] (t ∷ ts) lines texts line text n k end stop a told x y f out nm om = absurd a
one_follow place count r q m (s ∷ ss) [] lines texts line text n k end stop a told x y f out nm om = absurd a
one_follow place count r q m (s ∷ ss) (t ∷ ts) lines texts line text n k end stop a told x y f out nm om = go (first.1 told.0 nm) (second.1 told_t om)
  where
    first : FollowAs place count r (s ∷ ss) lines n line q end
    first = follow_as place count r q (s ∷ ss) lines line n end x

    second : FollowAs place count r (t ∷ ts) texts k text m stop
    second = follow_as place count r m (t ∷ ts) texts text k stop y

    told_t : IsTold t
    told_t = subst IsSome a.0.left told.0

    go : Unread place r s lines n line q end ⊎ Heard place r s (Reads count s.left r lines n line q end) → Unread place r t texts k text m stop ⊎ Heard place r t (Reads count t.left r texts k text m stop)
        → Same (s ∷ ss) (t ∷ ts) q m end stop lines texts n k line text
    go (inl h) (inl i) =
        let z = one_fail place r s t end stop a.0 f h.fails i.fails in
        (one_link s t ss ts (one_said (failing end) s t a.0 z.1) first.0 second.0, h.kept ∙ sym i.kept, z.0, h.no_lines ∙ sym i.no_lines, h.none ∙ sym i.none, h.no_line ∙ sym i.no_line)
    go (inl h) (inr i) = absurd (no_fail place r (failing end) t s i.kind i.V i.behind end (alike_back (failing end) s t a.0) refl i.starts h.fails)
    go (inr h) (inl i) = absurd (no_fail place r (failing end) s t h.kind h.V h.behind stop a.0 f h.starts i.fails)
    go (inr h) (inr i) =
        let here = heard_same place r s t (Reads count s.left r lines n line q end) (Reads count t.left r texts k text m stop) a.0.given h i in
        let there = subst (λ (z : Option (List ℕ)). Reads count z r lines n line q end i.kind i.V i.behind) a.0.left here in
        let w = reads_one count t.left r lines texts n k line text q m end stop i.kind i.V i.behind told_t f out there i.holds in
        (one_link s t ss ts (one_said (failing end) s t a.0 (h.starts.sent ∙ sym i.starts.sent)) first.0 second.0, w.0, w.1, w.2, w.3, w.4)
