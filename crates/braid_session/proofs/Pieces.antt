-- The bytes of a subscription are its head and its pieces, and the updates of the pieces are what is sent to the last mark.
use Rattle.std.proofs.Common.{◌≡◌, ℕ, ◌≤◌, List, [], ◌∷◌, ◌++◌, refl, sym, ap, subst, ◌∙◌, length, take, drop, append_assoc, Option, Some, None, take-append-drop, arith}
use Rattle.std.specs.List.{flat_map}
use Rattle.std.proofs.lemmas.List.{append-nil, drop_at, take-take}
use Rattle.std.proofs.lemmas.Grind.{flat_map-append}
use Rattle.braid_change.specs.Updates.{UpdateView}
use Rattle.braid_change.specs.Spellings.{canonical}
use Rattle.braid_graph.specs.Entries.{HoldsAll}
use Rattle.braid_text.specs.Histories.{graph_of, IsLegal}
use Rattle.braid_text.specs.Sent.{sent}
use Rattle.braid_store.specs.declared.entry.Entry.{Entry}
use Rattle.braid_store.specs.Books.{of_path, IsLegalBook}
use Rattle.braid_store.specs.Cursors.{sent_of}
use Rattle.braid_store.proofs.Paths.{of_path_append}
use Rattle.braid_store.proofs.Later.{legal_front, held_longer, sent_of_longer}
use Rattle.braid_fields.specs.Chunks.{chunk}
use Rattle.braid_stream.specs.Chunked.{chunks}
use Rattle.braid_session.specs.Sessions.{chunks_or_beat, further, subscription_head}
use Rattle.braid_session.specs.Pieces.{piece_text, pieces_of, pieces_or_beat, further_pieces, watch_pieces, updates_in, last_mark, NeverFall, PiecesSpell, PiecesSend}

-- the text of updates' chunks
chunks_are : (us : List UpdateView) → chunks us ≡ flat_map piece_text (pieces_of us)
chunks_are [] = refl
chunks_are (u ∷ us) = ap (λ (t : List ℕ). chunk (canonical u) ++ t) (chunks_are us)

chunks_or_beat_are : (us : List UpdateView) → chunks_or_beat us ≡ flat_map piece_text (pieces_or_beat us)
chunks_or_beat_are [] = sym (append-nil (piece_text None))
chunks_or_beat_are (u ∷ us) = chunks_are (u ∷ us)

further_is : (book : List Entry) (path : List ℕ) (from : List (List ℕ)) (passed : ℕ) (marks : List ℕ) → further book path from passed marks ≡ flat_map piece_text (further_pieces book path from passed marks)
further_is book path from passed [] = refl
further_is book path from passed (n ∷ marks) =
    ap (λ (t : List ℕ). chunks_or_beat new ++ t) (further_is book path from (length (sent_of book path from n)) marks)
    ∙ ap (λ (t : List ℕ). t ++ flat_map piece_text rest) (chunks_or_beat_are new)
    ∙ sym (flat_map-append piece_text (pieces_or_beat new) rest)
  where
    new : List UpdateView
    new = drop passed (sent_of book path from n)

    rest : List (Option UpdateView)
    rest = further_pieces book path from (length (sent_of book path from n)) marks

pub pieces_spell : PiecesSpell
pieces_spell book path from n marks = append_assoc (subscription_head (take n book) path) (chunks S) (further book path from (length S) marks) ∙ ap (λ (t : List ℕ). subscription_head (take n book) path ++ t) (
    ap (λ (t : List ℕ). chunks S ++ t) (further_is book path from (length S) marks)
    ∙ ap (λ (t : List ℕ). t ++ flat_map piece_text rest) (chunks_are S)
    ∙ sym (flat_map-append piece_text (pieces_of S) rest)
    )
  where
    S : List UpdateView
    S = sent_of book path from n

    rest : List (Option UpdateView)
    rest = further_pieces book path from (length S) marks

-- the updates of pieces
updates_of : (us : List UpdateView) → updates_in (pieces_of us) ≡ us
updates_of [] = refl
updates_of (u ∷ us) = ap (λ (t : List UpdateView). u ∷ t) (updates_of us)

updates_or_none : (us : List UpdateView) → updates_in (pieces_or_beat us) ≡ us
updates_or_none [] = refl
updates_or_none (u ∷ us) = updates_of (u ∷ us)

pub updates_append : (xs ys : List (Option UpdateView)) → updates_in (xs ++ ys) ≡ updates_in xs ++ updates_in ys
updates_append [] ys = refl
updates_append (None ∷ xs) ys = updates_append xs ys
updates_append (Some u ∷ xs) ys = ap (λ (t : List UpdateView). u ∷ t) (updates_append xs ys)

module _ (book : List Entry) (path : List ℕ) (from : List (List ℕ)) (legal : IsLegalBook book) where
  -- a longer front sends what a shorter one sends, and more
  split_front : (n m : ℕ) → n ≤ m → take m book ≡ take n book ++ drop n (take m book)
  split_front n m l = sym (take-append-drop n (take m book)) ∙ ap (λ (B : List Entry). B ++ drop n (take m book)) (take-take n m book l)

  pub path_front : (n m : ℕ) → n ≤ m → (rest : List UpdateView) × (of_path (take m book) path ≡ of_path (take n book) path ++ rest)
  path_front n m l = (of_path (drop n (take m book)) path, ap (λ (B : List Entry). of_path B path) (split_front n m l) ∙ of_path_append (take n book) (drop n (take m book)) path)

  pub front_of_book : (m : ℕ) → (rest : List UpdateView) × (of_path book path ≡ of_path (take m book) path ++ rest)
  front_of_book m = (of_path (drop m book) path, ap (λ (B : List Entry). of_path B path) (sym (take-append-drop m book)) ∙ of_path_append (take m book) (drop m book) path)

  pub front_legal : (m : ℕ) → IsLegalBook (take m book)
  front_legal m p = legal_front (of_path (take m book) p) (of_path (drop m book) p) (subst IsLegal (ap (λ (B : List Entry). of_path B p) (sym (take-append-drop m book)) ∙ of_path_append (take m book) (drop m book) p) (legal p))

  more_sent : (n m : ℕ) → n ≤ m → HoldsAll (graph_of (of_path (take n book) path)) from → sent_of book path from m ≡ sent_of book path from n ++ of_path (drop n (take m book)) path
  more_sent n m l held = subst (λ (B : List Entry). sent (of_path B path) from ≡ sent_of book path from n ++ of_path (drop n (take m book)) path) (sym (split_front n m l))
      (sent_of_longer (take n book) (drop n (take m book)) path from (subst IsLegalBook (split_front n m l) (front_legal m)) held)

  still_held : (n m : ℕ) → n ≤ m → HoldsAll (graph_of (of_path (take n book) path)) from → HoldsAll (graph_of (of_path (take m book) path)) from
  still_held n m l held = subst (λ (H : List UpdateView). HoldsAll (graph_of H) from) (sym (ap (λ (B : List Entry). of_path B path) (split_front n m l) ∙ of_path_append (take n book) (drop n (take m book)) path))
      (held_longer (of_path (take n book) path) (of_path (drop n (take m book)) path) from held)

  further_sent : (n : ℕ) (marks : List ℕ) → HoldsAll (graph_of (of_path (take n book) path)) from → NeverFall n marks
      → sent_of book path from n ++ updates_in (further_pieces book path from (length (sent_of book path from n)) marks) ≡ sent_of book path from (last_mark n marks)
  further_sent n [] held rising = append-nil (sent_of book path from n)
  further_sent n (m ∷ marks) held (l, rising) =
      ap (λ (t : List UpdateView). S ++ t) (updates_append (pieces_or_beat (drop (length S) T)) rest ∙ ap (λ (t : List UpdateView). t ++ updates_in rest) (updates_or_none (drop (length S) T) ∙ new))
      ∙ sym (append_assoc S more (updates_in rest))
      ∙ ap (λ (t : List UpdateView). t ++ updates_in rest) (sym (more_sent n m l held))
      ∙ further_sent m marks (still_held n m l held) rising
    where
      S : List UpdateView
      S = sent_of book path from n

      T : List UpdateView
      T = sent_of book path from m

      more : List UpdateView
      more = of_path (drop n (take m book)) path

      rest : List (Option UpdateView)
      rest = further_pieces book path from (length T) marks

      new : drop (length S) T ≡ more
      new = ap (drop (length S)) (more_sent n m l held) ∙ drop_at S more (length S) refl

  pub all_sent : (n : ℕ) (marks : List ℕ) → HoldsAll (graph_of (of_path (take n book) path)) from → NeverFall n marks → updates_in (watch_pieces book path from n marks) ≡ sent_of book path from (last_mark n marks)
  all_sent n marks held rising = updates_append (pieces_of (sent_of book path from n)) (further_pieces book path from (length (sent_of book path from n)) marks)
      ∙ ap (λ (t : List UpdateView). t ++ updates_in (further_pieces book path from (length (sent_of book path from n)) marks)) (updates_of (sent_of book path from n))
      ∙ further_sent n marks held rising

pub pieces_send : PiecesSend
pieces_send book path from n marks legal held rising = all_sent book path from legal n marks held rising

-- the last mark is none below the first
pub marks_rise : (n : ℕ) (marks : List ℕ) → NeverFall n marks → n ≤ last_mark n marks
marks_rise n [] h = omega arith
marks_rise n (m ∷ marks) (l, h) = let k = marks_rise m marks h in omega (arith, l, k)
