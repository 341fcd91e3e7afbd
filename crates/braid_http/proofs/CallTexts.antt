-- What is put together piece by piece is a request's text.
use Rattle.std.proofs.Common.{◌≡◌, ℕ, append_assoc, append-nil, List, [], ◌∷◌, ◌++◌, refl, ap, sym, ◌∙◌, length, drop, flat_map, codes, decimal}
use Rattle.std.proofs.lemmas.List.{drop_at}
use Rattle.std.proofs.lemmas.Grind.{flat_map-append}
use Rattle.braid_ids.specs.Identifiers.{spelled_id}
use Rattle.braid_change.specs.Updates.{UpdateView}
use Rattle.braid_change.specs.declared.patch.Patch.{Patch}
use Rattle.braid_change.specs.declared.change.Change.{Change}
use Rattle.braid_change.specs.declared.change.Change.TheVariants.{Patches}
use Rattle.braid_change.specs.Spellings.{canonical, list_text, patch_text, change_text}
use Rattle.braid_http.specs.Replies.{ended}
use Rattle.braid_http.specs.Calls.{put_content}

-- the lines of a subscription
pub subscribe_lines : (get version host asks parents merge path server list : List ℕ)
    → (((get ++ (path ++ ((version ++ (ended [] ++ host)) ++ (server ++ ended [])))) ++ (asks ++ (ended [] ++ parents))) ++ list) ++ (ended [] ++ (merge ++ (ended [] ++ ended [])))
    ≡ flat_map ended (((get ++ path) ++ version) ∷ (host ++ server) ∷ asks ∷ (parents ++ list) ∷ merge ∷ []) ++ codes "\r\n" ++ []
subscribe_lines get version host asks parents merge path server list = simp (append_assoc, append-nil)

-- the lines of a PUT, and its content
pub put_lines : (put version host name parents merge kind size path server id list number content : List ℕ) (count : List (List ℕ))
    → ((((put ++ (path ++ ((version ++ (ended [] ++ host)) ++ (server ++ ended [])))) ++ (name ++ (id ++ ((ended [] ++ parents) ++ (list ++ ended []))))) ++ (merge ++ (ended [] ++ (kind ++ ended []))))
    ++ flat_map ended count) ++ (size ++ (number ++ ((ended [] ++ ended []) ++ content)))
    ≡ flat_map ended (((put ++ path) ++ version) ∷ (host ++ server) ∷ (name ++ id) ∷ (parents ++ list) ∷ merge ∷ kind ∷ (count ++ (size ++ number) ∷ [])) ++ codes "\r\n" ++ content
put_lines put version host name parents merge kind size path server id list number content count =
    sym (rw (flat_map-append ended count ((size ++ number) ∷ [])) (simp append_assoc))

-- what the canonical spelling of patches has behind its head
regroup : (name id parents list end count number patches : List ℕ)
    → (((((name ++ id) ++ parents) ++ list) ++ end) ++ (((count ++ number) ++ (end ++ end)) ++ patches)) ++ end
    ≡ (((name ++ (id ++ (parents ++ (list ++ end)))) ++ (count ++ (number ++ end))) ++ end) ++ (patches ++ end)
regroup name id parents list end count number patches = simp append_assoc

pub content_behind : (u : UpdateView) (patches : List Patch) (count : ℕ) (spelled o0 o1 o2 head content : List ℕ) → u.change ≡ Patches patches → count ≡ length patches → spelled ≡ canonical u
    → o0 ≡ [] → o1 ≡ o0 ++ (codes "Version: " ++ (spelled_id u.id ++ (codes "\r\nParents:" ++ (list_text u.parents ++ codes "\r\n"))))
    → o2 ≡ o1 ++ (codes "Patches: " ++ (decimal count ++ codes "\r\n")) → head ≡ o2 ++ codes "\r\n" → content ≡ drop (length head) spelled → content ≡ put_content u.change
content_behind u patches count spelled o0 o1 o2 head content p n s e0 e1 e2 e3 c =
    let front = (codes "Version: " ++ (spelled_id u.id ++ (codes "\r\nParents:" ++ (list_text u.parents ++ codes "\r\n")))) ++ (codes "Patches: " ++ (decimal count ++ codes "\r\n")) ++ codes "\r\n" in
    let head_is : head ≡ front = e3 ∙ ap (λ z. z ++ codes "\r\n") (e2 ∙ ap (λ z. z ++ (codes "Patches: " ++ (decimal count ++ codes "\r\n"))) (e1 ∙ ap (λ z. z ++ (codes "Version: " ++ (spelled_id u.id ++ (codes "\r\nParents:" ++ (list_text u.parents ++ codes "\r\n"))))) e0)) in
    let same : canonical u ≡ canonical (record { id = u.id; parents = u.parents; change = Patches patches }) = ap (λ (z : Change). canonical (record { id = u.id; parents = u.parents; change = z })) p in
    let numbered : change_text (Patches patches) ≡ codes "Patches: " ++ decimal count ++ codes "\r\n\r\n" ++ flat_map patch_text patches = ap (λ z. codes "Patches: " ++ decimal z ++ codes "\r\n\r\n" ++ flat_map patch_text patches) (sym n) in
    let whole : spelled ≡ head ++ put_content (Patches patches) =
    s ∙ same ∙ ap (λ z. codes "Version: " ++ spelled_id u.id ++ codes "\r\nParents:" ++ list_text u.parents ++ codes "\r\n" ++ z ++ codes "\r\n") numbered
    ∙ regroup (codes "Version: ") (spelled_id u.id) (codes "\r\nParents:") (list_text u.parents) (codes "\r\n") (codes "Patches: ") (decimal count) (flat_map patch_text patches)
    ∙ ap (λ z. z ++ put_content (Patches patches)) (sym head_is) in
    c ∙ ap (drop (length head)) whole ∙ drop_at head (put_content (Patches patches)) (length head) refl ∙ ap put_content (sym p)

pub head_within : (spelled head content : List ℕ) → spelled ≡ head ++ content → content ≡ drop (length head) spelled
head_within spelled head content e = sym (ap (drop (length head)) e ∙ drop_at head content (length head) refl)
