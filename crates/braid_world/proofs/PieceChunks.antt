-- What has come of a chunked body with the pieces of a subscription, and that data is no longer than its body.
use Rattle.std.proofs.Common.{◌≡◌, ℕ, ◌≤◌, List, [], ◌∷◌, ◌++◌, refl, sym, ap, ◌∙◌, inl, inr, map, length, length-append, take, drop, append-nil, Option, take-append-drop, arith}
use Rattle.std.specs.List.{flat_map, AllByRecursion}
use Rattle.braid_change.specs.Updates.{UpdateView, IsUpdate}
use Rattle.braid_http.specs.declared.response.BodyKind.{BodyKind}
use Rattle.braid_http.specs.declared.response.BodyKind.TheVariants.{Length, Chunked, ToClose}
use Rattle.braid_http.specs.Chunks.{Chunk, print_chunk, chunk_data}
use Rattle.braid_http.specs.Bodies.{IsChunkedBody, HasCome, in_line, in_chunk, behind_chunk, behind_last}
use Rattle.braid_http.proofs.WrittenLaws.{written}
use Rattle.braid_sync.specs.Hearing.{HasData}
use Rattle.braid_session.specs.Pieces.{piece_text, updates_in}
use Rattle.braid_session.proofs.Pieces.{updates_append}
use Rattle.braid_session.proofs.PieceData.{piece_data, data_of, written_pieces}

joined : (ps : List (Option UpdateView)) → flat_map (λ (piece : List ℕ). piece) (map piece_data ps) ≡ data_of ps
joined [] = refl
joined (p ∷ ps) = ap (λ (t : List ℕ). piece_data p ++ t) (joined ps)

-- pieces are what has come of a chunked body, whose last chunk has not
pub body_begun : (ps : List (Option UpdateView)) → AllByRecursion IsUpdate (updates_in ps) → HasCome (data_of ps) (flat_map piece_text ps)
body_begun ps h =
    let w = written (map piece_data ps) (flat_map piece_text ps) (written_pieces ps h) in
    in_line [] (record {
      chunks = w.chunks;
      each = w.each;
      lacks = tt;
      short = omega arith;
      passed_is = w.prints ∙ sym (append-nil _);
      content_is = sym (joined ps) ∙ w.gives;
    })

-- the updates of the first pieces are the first updates
pub updates_split : (j : ℕ) (ps : List (Option UpdateView)) → updates_in ps ≡ updates_in (take j ps) ++ updates_in (drop j ps)
updates_split j ps = ap updates_in (sym (take-append-drop j ps)) ∙ updates_append (take j ps) (drop j ps)

pub all_front : (P : UpdateView → Type 0) (xs ys : List UpdateView) → AllByRecursion P (xs ++ ys) → AllByRecursion P xs
all_front P [] ys h = tt
all_front P (x ∷ xs) ys h = (h.0, all_front P xs ys h.1)

-- data is no longer than the bytes of the body that it came in

chunks_shorter : (cs : List Chunk) → length (chunk_data cs) ≤ length (flat_map print_chunk cs)
chunks_shorter [] = omega arith
chunks_shorter (c ∷ cs) =
    let h = chunks_shorter cs in
    omega (arith, h, length-append c.content (chunk_data cs), length-append (print_chunk c) (flat_map print_chunk cs), length-append c.line (c.content ++ 13 ∷ 10 ∷ []), length-append c.content (13 ∷ 10 ∷ []))

behind_chunks : (cs : List Chunk) (content b part tail : List ℕ) → content ≡ chunk_data cs ++ part → b ≡ flat_map print_chunk cs ++ tail → length part ≤ length tail → length content ≤ length b
behind_chunks cs content b part tail e f l = omega (arith, l, chunks_shorter cs, ap length e, ap length f, length-append (chunk_data cs) part, length-append (flat_map print_chunk cs) tail)

come_shorter : (content b : List ℕ) → HasCome content b → length content ≤ length b
come_shorter content b (in_line begun i) = behind_chunks i.chunks content b [] begun (i.content_is ∙ sym (append-nil (chunk_data i.chunks))) i.passed_is (omega arith)
come_shorter content b (in_chunk left some i) = behind_chunks i.chunks content b i.begun (i.line ++ i.begun) i.content_is i.passed_is (omega (arith, length-append i.line i.begun))
come_shorter content b (behind_chunk end h i) = behind_chunks i.chunks content b i.whole (i.line ++ (i.whole ++ end)) i.content_is i.passed_is (omega (arith, length-append i.line (i.whole ++ end), length-append i.whole end))
come_shorter content b (behind_last begun i) = behind_chunks i.chunks content b [] (i.line ++ begun) (i.content_is ∙ sym (append-nil (chunk_data i.chunks))) i.passed_is (omega arith)

chunked_shorter : (content b : List ℕ) → IsChunkedBody content b → length content ≤ length b
chunked_shorter content b i = behind_chunks i.is.chunks content b [] (i.is.ends.line ++ i.is.ends.more) (i.is.gives ∙ sym (append-nil (chunk_data i.is.chunks))) i.is.ends.whole (omega arith)

pub data_in_bytes : (kind : BodyKind) (content b : List ℕ) → HasData kind content b → length content ≤ length b
data_in_bytes (Length n) content b (inl h) = omega (arith, ap length h.0)
data_in_bytes (Length n) content b (inr (inl h)) = omega (arith, ap length h.0)
data_in_bytes Chunked content b (inl h) = come_shorter content b h
data_in_bytes Chunked content b (inr (inl h)) = chunked_shorter content b h
data_in_bytes ToClose content b (inl h) = omega (arith, ap length h)
data_in_bytes ToClose content b (inr (inl h)) = omega (arith, ap length h)
data_in_bytes kind content b (inr (inr h)) = let k = come_shorter content h.front h.come in omega (arith, k, ap length h.whole, length-append h.front (h.last ∷ []))
