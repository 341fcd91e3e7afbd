-- What one turn does to the pass that takes it.
use Rattle.std.proofs.Common.{◌≡◌, ℕ, ◌+◌, ◌≤◌, ◌⊎◌, inl, inr, Bool, false, List, [], ◌∷◌, ◌++◌, refl, ap, sym, ◌∙◌, subst, length, slice_get, Some, Result, Err, true, arith, append-nil, append_assoc, length-append}
use Rattle.std.specs.Prelude.{IfErr, if◌then◌else◌}
use Rattle.std.proofs.lemmas.List.{length-map}
use Rattle.std.proofs.lemmas.Option.{slice_get-get_or}
use Rattle.std.proofs.Math.Seq.{drop-append_seam, get_or-append_seam}
use Rattle.braid_io.specs.Bells.{Ringing}
use Rattle.braid_hall.specs.Histories.{IsPrefix}
use Rattle.braid_hall.specs.Passes.{PassView, AddsOne, IsTurn, IsWorn, entered, left_with, worn}
use Rattle.braid_store.specs.declared.entry.Entry.{Entry}
use Rattle.braid_store.specs.declared.put.Put.{Put}
use Rattle.braid_store.specs.declared.put.Put.TheVariants as puts
use Rattle.braid_http.specs.declared.reply.Reply.{Reply}
use Rattle.braid_session.specs.declared.wish.Wish.{Wish}
use Rattle.braid_session.specs.declared.turn.NoReply.{NoReply}
use Rattle.braid_session.specs.declared.turn.NoReply.TheVariants as no
use Rattle.braid_session.specs.Answers.{Answers, found, not_found, answered, not_held, entry_of, put_entries, MayAdd}
use Rattle.braid_session.specs.Sessions.{placed_at, entries_of}
use Rattle.braid_session.specs.Ends.{ArePlaced, AreLengths, none, stayed, grew, AreFound, none_found, passed_by, added_to, Passed, Rung}
use Rattle.braid_session.specs.Steps.{IsAnswered, IsLacking, RungWhereGrew, Turned, TookTurn, TurnedInVain, Idled}

-- none, or one entry with this number
abbrev pub AtMostOne : ℕ → List Entry → Type 0
AtMostOne by es = (es ≡ []) ⊎ ((e : Entry) × (es ≡ e ∷ []) × (e.by ≡ by))

-- an answer adds no entry, or one with the number of who asked
pub at_most_one : (B : List Entry) (by : ℕ) (path : List ℕ) (wish : Wish) (reply : Reply) (es : List Entry) → Answers B by path wish reply es → AtMostOne by es
at_most_one B by path _ _ _ (found at got r) = inl refl
at_most_one B by path _ _ _ (not_found at fault reply f r) = inl refl
at_most_one B by path _ _ _ (answered update answer reply p r) = go answer
  where
    go : (a : Put) → AtMostOne by (put_entries (entry_of by path update) a)
    go puts.New = inr (entry_of by path update, refl, refl)
    go puts.Known = inl refl
    go (puts.Clash other) = inl refl
    go (puts.UnknownParent parent) = inl refl
    go (puts.OutOfRange patch len) = inl refl
    go (puts.Full which limit) = inl refl
    go puts.Memory = inl refl
at_most_one B by path _ _ _ (not_held from id l) = inl refl

pub few_added : (old : List Entry) (by : ℕ) (path : List ℕ) (wish : Wish) (es : List Entry) → MayAdd old by path wish es → AtMostOne by es
few_added old by path wish es (inl e) = inl e
few_added old by path wish es (inr (reply, a)) = at_most_one old by path wish reply es a

-- so the pass may leave the book
pub adds_one : (p q : PassView Entry) (book new : List Entry) (by : ℕ) (path : List ℕ) (wish : Wish)
    → IsTurn (λ (b : List Entry). b) (λ (e : Entry). e.by) p q book → by ≡ q.number → IsLacking book by path wish new
    → AddsOne (λ (b : List Entry). b) (λ (e : Entry). e.by) q.number q.seen new
adds_one p q book new by path wish t n l = go (few_added book by path wish l.entries l.added)
  where
    seen : q.seen ≡ book
    seen = ap (λ (w : PassView Entry). w.seen) t.parts

    go : AtMostOne by l.entries → AddsOne (λ (b : List Entry). b) (λ (e : Entry). e.by) q.number q.seen new
    go (inl e) = inl (l.grew ∙ ap (λ z. book ++ z) e ∙ append-nil book ∙ sym seen)
    go (inr (e, is, own)) = inr (e, l.grew ∙ ap (λ z. book ++ z) is ∙ ap (λ z. z ++ e ∷ []) (sym seen), own ∙ n)

seconds : (n : ℕ) (es : List Entry) → entries_of (placed_at n es) ≡ es
seconds n [] = refl
seconds n (e ∷ es) = ap (λ z. e ∷ z) (seconds n es)

pub length_placed : (n : ℕ) (es : List Entry) → length (placed_at n es) ≡ length es
length_placed n es = length-map es (λ (e : Entry). (n, e))

slice_get_end : (book : List Entry) (e : Entry) → slice_get (book ++ e ∷ []) (length book) ≡ Some e
slice_get_end book e =
    let n = length-append book (e ∷ []) in
    slice_get-get_or (book ++ e ∷ []) (length book) e (omega (arith, n)) ∙ ap Some (get_or-append_seam book e [] e)

placed_end : (by : ℕ) (book es : List Entry) → AtMostOne by es → ArePlaced (book ++ es) (placed_at (length book) es)
placed_end by book es (inl e) = rw e tt
placed_end by book es (inr (e, is, own)) = rw is (slice_get_end book e, tt)

lengths_end : (by n : ℕ) (es : List Entry) → AtMostOne by es → AreLengths n (n ∷ []) (placed_at n es)
lengths_end by n es (inl e) = rw e (stayed n [] [] (none n))
lengths_end by n es (inr (e, is, own)) = rw is (grew n e [] [] (none (n + 1)))

found_end : (by low : ℕ) (book es : List Entry) → low ≤ length book → AtMostOne by es → AreFound low (length book ∷ []) (placed_at (length book) es) (length (book ++ es))
found_end by low book es l (inl e) = rw (e, append-nil book) (passed_by low (length book) (length book) [] [] l (none_found (length book) (length book) (omega arith)))
found_end by low book es l (inr (e, is, own)) =
    rw is (added_to low (length book) (length (book ++ e ∷ [])) e [] [] l (none_found (length book + 1) (length (book ++ e ∷ [])) (let k = length-append book (e ∷ []) in omega (arith, k))))

-- the pass after its turn, with a book that gained these entries
abbrev pub turned_pass : PassView Entry → ℕ → ℕ → ℕ → List Entry → List Entry → PassView Entry
turned_pass p spare look ticket book es = left_with (entered (record p { spare = spare }) look ticket book) (book ++ es)

passed_turn : (p : PassView Entry) (by spare look ticket : ℕ) (book es : List Entry) → IsPrefix p.seen book → (p.number ≡ 0 → p.away ≡ [] → book ≡ p.seen) → AtMostOne by es
    → Passed p (turned_pass p spare look ticket book es) (length book ∷ []) (placed_at (length book) es)
passed_turn p by spare look ticket book es begins exact few = record {
  hall = refl;
  number = refl;
  away = refl;
  idle = refl;
  made = refl;
  ended = refl;
  opened = refl;
  opening = refl;
  begins = (begins.0 ++ es, ap (λ z. z ++ es) begins.1 ∙ append_assoc p.seen begins.0 es);
  alone = λ n a.
      let same : book ≡ p.seen = exact n a in
      record {
        seen = ap (λ z. z ++ es) same ∙ ap (λ z. p.seen ++ z) (sym (seconds (length book) es));
        lengths = subst (λ (k : ℕ). AreLengths k (length book ∷ []) (placed_at (length book) es)) (ap length same) (lengths_end by (length book) es few);
      };
  between = found_end by (length p.seen) book es (let l = ap length begins.1 in let k = length-append p.seen begins.0 in omega (arith, l, k)) few;
  gained = refl;
  turns = refl;
  mine = ap (λ z. p.mine ++ z) (drop-append_seam book es ∙ sym (seconds (length book) es));
  placed = placed_end by book es few;
}

-- a pass of which but the room, the last look and the readiness changed, at rest
pub passed_still : (p : PassView Entry) (spare look : ℕ) (ready : Bool) → p.held ≡ false → Passed p (record p { spare = spare; look = look; ready = ready }) [] []
passed_still p spare look ready idle = record {
  hall = refl;
  number = refl;
  away = refl;
  idle = idle;
  made = refl;
  ended = refl;
  opened = refl;
  opening = refl;
  begins = ([], sym (append-nil p.seen));
  alone = λ n a. record { seen = sym (append-nil p.seen); lengths = none (length p.seen) };
  between = none_found (length p.seen) (length p.seen) (omega arith);
  gained = sym (append-nil p.marks);
  turns = omega arith;
  mine = sym (append-nil p.mine);
  placed = tt;
}

pub idled_none : (p : PassView Entry) (marks : List ℕ) (bell : Ringing) → p.held ≡ false → Idled p p marks marks bell bell
idled_none p marks bell idle = record { passed = passed_still p p.spare p.look p.ready idle; seen = refl; noted = refl; rings = refl }

-- room was made, and no more
pub idled_room : (p m : PassView Entry) (spare : ℕ) (marks more : List ℕ) (bell : Ringing) → p.held ≡ false → m ≡ record p { spare = spare } → more ≡ marks
    → Idled p m marks more bell bell
idled_room p m spare marks more bell idle e k = rw e (record { passed = passed_still p spare p.look p.ready idle; seen = refl; noted = k; rings = refl })

-- room was made, and the hall gives no turn
pub idled_worn : (p m q : PassView Entry) (spare : ℕ) (marks more : List ℕ) (bell : Ringing) → p.held ≡ false → m ≡ record p { spare = spare } → IsWorn m q → more ≡ marks
    → Idled p q marks more bell bell
idled_worn p m q spare marks more bell idle e w k = rw (w.parts ∙ ap (λ (z : PassView Entry). worn z q.look) e) (record { passed = passed_still p spare q.look false idle; seen = refl; noted = k; rings = refl })

-- that is once for each entry
rung_end : (by : ℕ) (book es : List Entry) (bell rung : Ringing) → AtMostOne by es → RungWhereGrew (length book) (length (book ++ es)) bell rung → Rung (length es) bell rung
rung_end by book es bell rung (inl e) (inl (l, r)) = let k = length-append book es in let n = ap length e in absurd (omega (arith, k, n, l))
rung_end by book es bell rung (inl e) (inr (l, r)) = rw e r
rung_end by book es bell rung (inr (e, is, own)) (inl (l, r)) = rw is r
rung_end by book es bell rung (inr (e, is, own)) (inr (l, r)) = let k = length-append book es in let n = ap length is in absurd (omega (arith, k, n, l))

-- a turn was taken, and the book gained these
pub turned_with : (p m q z : PassView Entry) (spare by : ℕ) (book es new : List Entry) (marks more : List ℕ) (bell rung : Ringing)
    → m ≡ record p { spare = spare } → IsTurn (λ (b : List Entry). b) (λ (e : Entry). e.by) m q book → z ≡ left_with q new
    → AtMostOne by es → new ≡ book ++ es → more ≡ marks ++ length book ∷ [] → RungWhereGrew (length book) (length new) bell rung
    → Turned book es p z marks more bell rung
turned_with p m q z spare by book es new marks more bell rung e t l few g k r = record {
  passed = subst (λ (w : PassView Entry). Passed p w (length book ∷ []) (placed_at (length book) es)) (sym whole)
      (passed_turn p by spare q.look t.ticket book es begins exact few);
  seen = ap (λ (w : PassView Entry). w.seen) l ∙ g;
  noted = k;
  rings = rung_end by book es bell rung few (rw g at r);
}
  where
    whole : z ≡ turned_pass p spare q.look t.ticket book es
    whole = l ∙ ap (λ (w : PassView Entry). left_with w new) (t.parts ∙ ap (λ (w : PassView Entry). entered w q.look t.ticket book) e)
        ∙ ap (λ (w : List Entry). left_with (entered (record p { spare = spare }) q.look t.ticket book) w) g

    begins : IsPrefix p.seen book
    begins = subst (λ (w : PassView Entry). IsPrefix w.seen book) e t.begins

    exact : p.number ≡ 0 → p.away ≡ [] → book ≡ p.seen
    exact n a = t.exact (ap (λ (w : PassView Entry). w.number) e ∙ n) (ap (λ (w : PassView Entry). w.away) e ∙ a) ∙ ap (λ (w : PassView Entry). w.seen) e

-- the number of the pass in its turn is that of the pass before it
number_of : (p m q : PassView Entry) (spare : ℕ) (book : List Entry) → m ≡ record p { spare = spare } → IsTurn (λ (b : List Entry). b) (λ (e : Entry). e.by) m q book → q.number ≡ p.number
number_of p m q spare book e t = ap (λ (w : PassView Entry). w.number) t.parts ∙ ap (λ (w : PassView Entry). w.number) e

pub took_turn : (p m q z : PassView Entry) (spare by : ℕ) (book new : List Entry) (path : List ℕ) (wish : Wish) (reply : Reply) (marks more : List ℕ) (bell rung : Ringing)
    → m ≡ record p { spare = spare } → IsTurn (λ (b : List Entry). b) (λ (e : Entry). e.by) m q book → z ≡ left_with q new → by ≡ q.number
    → IsAnswered book by path wish reply new → more ≡ marks ++ length book ∷ [] → RungWhereGrew (length book) (length new) bell rung
    → TookTurn path wish reply p z marks more bell rung
took_turn p m q z spare by book new path wish reply marks more bell rung e t l n a k r = record {
  book = book;
  entries = a.entries;
  turned = turned_with p m q z spare by book a.entries new marks more bell rung e t l (at_most_one book by path wish reply a.entries a.answers) a.grew k r;
  answers = subst (λ (w : ℕ). Answers book w path wish reply a.entries) (n ∙ number_of p m q spare book e t) a.answers;
}

pub turned_in_vain : (p m q z : PassView Entry) (spare by : ℕ) (book new : List Entry) (path : List ℕ) (wish : Wish) (marks more : List ℕ) (bell rung : Ringing)
    → m ≡ record p { spare = spare } → IsTurn (λ (b : List Entry). b) (λ (e : Entry). e.by) m q book → z ≡ left_with q new → by ≡ q.number
    → IsLacking book by path wish new → more ≡ marks ++ length book ∷ [] → RungWhereGrew (length book) (length new) bell rung
    → TurnedInVain path wish p z marks more bell rung
turned_in_vain p m q z spare by book new path wish marks more bell rung e t l n a k r = record {
  book = book;
  entries = a.entries;
  turned = turned_with p m q z spare by book a.entries new marks more bell rung e t l (few_added book by path wish a.entries a.added) a.grew k r;
  added = subst (λ (w : ℕ). MayAdd book w path wish a.entries) (n ∙ number_of p m q spare book e t) a.added;
}

-- nothing changed
pub idled_same : (p m : PassView Entry) (marks : List ℕ) (bell : Ringing) → p.held ≡ false → m ≡ p → Idled p m marks marks bell bell
idled_same p m marks bell idle e = rw e (idled_none p marks bell idle)

-- a mark is pushed into its room
pub pushed : (xs ys zs : List ℕ) (n m : ℕ) (b : Bool) → ys ≡ xs → zs ≡ (if b then ys ++ n ∷ [] else ys) → b ≡ true → n ≡ m → zs ≡ xs ++ m ∷ []
pushed xs ys zs n m b e f h k = (rw h at f) ∙ ap (λ (z : List ℕ). z ++ n ∷ []) e ∙ ap (λ (z : ℕ). xs ++ z ∷ []) k

pub rung_of : (a b n m : ℕ) (bell rung : Ringing) → a ≡ n → b ≡ m → RungWhereGrew a b bell rung → RungWhereGrew n m bell rung
rung_of a b n m bell rung e f r = rw (e, f) at r

-- there was no memory, which is why there is no reply
pub no_memory : {T : Type 0} (r : Result T NoReply) (e : NoReply) (P : NoReply → Type 0) → r ≡ Err e → e ≡ no.Memory → P no.Memory → IfErr r P
no_memory r e P h k p = rw (h, k) p
