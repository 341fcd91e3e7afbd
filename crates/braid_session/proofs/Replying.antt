-- What is replied to one request, and why there is no reply.
use Rattle.std.proofs.Common.{◌≡◌, ℕ, ◌≤◌, inl, inr, Bool, true, false, List, [], ◌∷◌, refl, ap, sym, ◌∙◌, subst, length, Option, None, Some, codes, arith, append-nil}
use Rattle.std.specs.Prelude.{◌||◌, not, if◌then◌else◌}
use Rattle.std.proofs.Math.Seq.{take-append_seam}
use Rattle.std.proofs.lemmas.Grind.{common_steps}
use Rattle.braid_io.specs.Bells.{Ringing}
use Rattle.braid_fields.specs.declared.reason.Reason.{Reason}
use Rattle.braid_fields.specs.declared.reason.Reason.TheVariants as reasons
use Rattle.braid_fields.specs.Table.{is_encoded, is_repeated, is_other_merge_type}
use Rattle.braid_hall.specs.Passes.{PassView}
use Rattle.braid_store.specs.declared.entry.Entry.{Entry}
use Rattle.braid_store.specs.declared.put.Put.{Put}
use Rattle.braid_store.specs.declared.put.Put.TheVariants as puts
use Rattle.braid_store.specs.declared.got.GetFault.{GetFault}
use Rattle.braid_store.specs.declared.got.GetFault.TheVariants as faults
use Rattle.braid_http.specs.declared.request.Request.{Request}
use Rattle.braid_http.specs.declared.reply.Reply.{Reply}
use Rattle.braid_http.specs.declared.refusal.Refusal.{Refusal}
use Rattle.braid_http.specs.declared.refusal.Refusal.TheVariants as refusals
use Rattle.braid_http.specs.Replies.{reply_text, HasPhrase, IsWritable}
use Rattle.braid_session.specs.declared.serving.Serving.{Serving}
use Rattle.braid_session.specs.declared.denial.Denial.{Denial}
use Rattle.braid_session.specs.declared.denial.Denial.TheVariants as denials
use Rattle.braid_session.specs.declared.wish.Wish.{Wish}
use Rattle.braid_session.specs.declared.wish.Wish.TheVariants.{Read, Watch, Store}
use Rattle.braid_session.specs.declared.turn.NoReply.{NoReply}
use Rattle.braid_session.specs.declared.turn.NoReply.TheVariants as no
use Rattle.braid_session.specs.Denials.{denial_status}
use Rattle.braid_session.specs.Orders.{Row, first_denial, values_of, is_served, rows_of_list, is_get, names_resource, is_other_form, is_subscription, has_field, denial_of, rows_of_get, list_in_use}
use Rattle.braid_session.specs.Wishes.{Means, denied, wanted, get, put}
use Rattle.braid_session.specs.Answers.{Answers, found, not_found, answered, not_held, denial_reply, fault_reply, put_reply}
use Rattle.braid_session.specs.Sessions.{placed_at, goes_on, none, direct, turn, refusal_reply}
use Rattle.braid_session.specs.Steps.{IsAtOnce, TookTurn, TookNone, RepliedBy, NotReplied}
use Rattle.braid_session.proofs.Turns.{length_placed, idled_none}

-- the reply to a denial is plain
pub writable_denial : (d : Denial) → IsWritable (denial_reply d)
writable_denial denials.Method = omega arith
writable_denial denials.Encoded = omega arith
writable_denial denials.Path = omega arith
writable_denial denials.OtherMergeType = omega arith
writable_denial denials.NotServed = omega arith
writable_denial denials.BadList = omega arith
writable_denial denials.BadId = omega arith
writable_denial denials.Short = omega arith
writable_denial denials.Extra = omega arith
writable_denial (denials.NoUpdate reason) = go reason
  where
    go : (reason : Reason) → HasPhrase (denial_status (denials.NoUpdate reason))
    go reasons.BadLine = omega arith
    go reasons.BadStatus = omega arith
    go reasons.HeadTooLong = omega arith
    go reasons.Encoded = omega arith
    go reasons.RepeatedField = omega arith
    go reasons.OtherMergeType = omega arith
    go reasons.BadList = omega arith
    go reasons.NoVersion = omega arith
    go reasons.ManyVersions = omega arith
    go reasons.BadId = omega arith
    go reasons.TooManyParents = omega arith
    go reasons.BadCount = omega arith
    go reasons.TooManyPatches = omega arith
    go reasons.NoLength = omega arith
    go reasons.BadLength = omega arith
    go reasons.TooLong = omega arith
    go reasons.NoRange = omega arith
    go reasons.OtherUnit = omega arith
    go reasons.BadRange = omega arith
    go reasons.Backwards = omega arith
    go reasons.Overlap = omega arith
    go reasons.NotText = omega arith

-- the reply to bytes that are no request can be written
pub writable_refusal : (f : Refusal) → IsWritable (refusal_reply f)
writable_refusal refusals.LongHead = omega arith
writable_refusal refusals.ManyFields = omega arith
writable_refusal refusals.BadHead = omega arith
writable_refusal refusals.Version = omega arith
writable_refusal refusals.BothLengths = omega arith
writable_refusal refusals.BadLength = omega arith
writable_refusal refusals.TooLong = omega arith
writable_refusal refusals.BadChunk = omega arith

-- a reply that an option holds
inside : (x y : Reply) → Some x ≡ Some y → IsWritable x → IsWritable y
inside x y e p = let same : x ≡ y = cc in subst IsWritable same p

-- so are the replies of a book
pub writable_answer : (B : List Entry) (by : ℕ) (path : List ℕ) (wish : Wish) (reply : Reply) (es : List Entry) → Answers B by path wish reply es → IsWritable reply
writable_answer B by path _ _ _ (found at got r) = tt
writable_answer B by path _ _ _ (not_found at fault reply f r) = go fault r
  where
    go : (fault : GetFault) → fault_reply fault ≡ Some reply → IsWritable reply
    go faults.Absent e = inside _ reply e (omega arith)
    go (faults.Unknown id) e = inside _ reply e (omega arith)
    go faults.Memory e = cc
writable_answer B by path _ _ _ (answered update answer reply p r) = go answer r
  where
    go : (a : Put) → put_reply update.id a ≡ Some reply → IsWritable reply
    go puts.New e = inside _ reply e tt
    go puts.Known e = inside _ reply e tt
    go (puts.Clash other) e = inside _ reply e (omega arith)
    go (puts.UnknownParent parent) e = inside _ reply e (omega arith)
    go (puts.OutOfRange patch len) e = inside _ reply e (omega arith)
    go (puts.Full which limit) e = inside _ reply e (omega arith)
    go puts.Memory e = cc
writable_answer B by path _ _ _ (not_held from id l) = omega arith

-- rows that are tried and do not pass
three_rows : (a b c : Bool) (d e f : Denial) (rows : List Row) → first_denial ((a, d) ∷ (b, e) ∷ (c, f) ∷ rows) ≡ None → (c ≡ false) × (first_denial rows ≡ None)
three_rows true b c d e f rows h = cc
three_rows false true c d e f rows h = cc
three_rows false false true d e f rows h = cc
three_rows false false false d e f rows h = (refl, h)

two_rows : (a b : Bool) (d e : Denial) (rows : List Row) → first_denial ((a, d) ∷ (b, e) ∷ rows) ≡ None → b ≡ false
two_rows true b d e rows h = cc
two_rows false true d e rows h = cc
two_rows false false d e rows h = refl

-- the rows on every request
any_row : (s : Serving) (q : Request) → denial_of s q ≡ None → (not (names_resource q.target) ≡ false) × (first_denial (if is_get q then rows_of_get s q else []) ≡ None)
any_row s q e =
    three_rows (not (is_served s q)) (is_encoded (values_of q (codes "content-encoding"))) (not (names_resource q.target)) denials.Method denials.Encoded denials.Path
    (if is_get q then rows_of_get s q else []) e

not_true : (b : Bool) → not b ≡ false → b ≡ true
not_true true e = refl
not_true false e = cc

path_short : (target : List ℕ) → names_resource target ≡ true → length target ≤ 1024
path_short [] e = cc
path_short (byte ∷ bytes) e = grind (arith, common_steps)

-- a request that is not denied by its head has a path for a target
pub short_target : (s : Serving) (q : Request) → denial_of s q ≡ None → length q.target ≤ 1024
short_target s q e = path_short q.target (not_true (names_resource q.target) (any_row s q e).0)

pub wanted_short : (s : Serving) (q : Request) (wish : Wish) → Means s q (wanted wish) → length q.target ≤ 1024
wanted_short s q _ (get e g) = short_target s q e
wanted_short s q _ (put u e g r) = short_target s q e

-- where there are no subscriptions, a GET that is not denied is none
plain_get : (s : Serving) (q : Request) → s.subscriptions ≡ false → denial_of s q ≡ None → is_get q ≡ true → is_subscription q ≡ false
plain_get s q h e g =
    let rows : first_denial (rows_of_get s q) ≡ None = rw g at (any_row s q e).1 in
    go (is_subscription q) (has_field q (codes "version")) (has_field q (codes "parents")) s.subscriptions h
    (two_rows (is_repeated (values_of q (codes "merge-type")) || is_other_merge_type (values_of q (codes "merge-type"))) (is_other_form s q) denials.OtherMergeType denials.NotServed
    (rows_of_list (list_in_use q)) rows)
  where
    go : (b v p subscriptions : Bool) → subscriptions ≡ false → (if b then v || not subscriptions else p) ≡ false → b ≡ false
    go false v p w h e = refl
    go true true p w h e = cc
    go true false p true h e = cc
    go true false p false h e = cc

not_watch : (b : Bool) (f from : List (List ℕ)) (at : Option (List (List ℕ))) → b ≡ false → (if b then Watch f else Read at) ≡ Watch from → ⊥
not_watch true f from at e h = cc
not_watch false f from at e h = cc

-- so nothing that is not denied wants one
pub unwatched : (s : Serving) (q : Request) (from : List (List ℕ)) → s.subscriptions ≡ false → Means s q (wanted (Watch from)) → ⊥
unwatched s q from h m = go (Watch from) m refl
  where
    go : (wish : Wish) → Means s q (wanted wish) → wish ≡ Watch from → ⊥
    go _ (get e g) k = not_watch (is_subscription q) _ from _ (plain_get s q h e g) k
    go _ (put u e g r) k = cc

-- any other wish is answered by one reply
pub at_once : (wish : Wish) → ((from : List (List ℕ)) → wish ≡ Watch from → ⊥) → IsAtOnce wish
at_once (Read at) n = tt
at_once (Watch from) n = n from refl
at_once (Store update) n = tt

-- the wish was answered in a turn
pub replied_turn : (s : Serving) (q : Request) (wish : Wish) (reply : Reply) (text : List ℕ) (p r : PassView Entry) (marks more : List ℕ) (bell rung : Ringing)
    → Means s q (wanted wish) → TookTurn q.target wish reply p r marks more bell rung → text ≡ reply_text q.close reply → RepliedBy s q text p r marks more bell rung
replied_turn s q wish reply text p r marks more bell rung m t e = record {
  new_marks = length t.book ∷ [];
  entries = placed_at (length t.book) t.entries;
  says = rw (e, t.turned.seen, ← append-nil (placed_at (length t.book) t.entries), ← append-nil (reply_text q.close reply))
      (turn q wish (length t.book) reply t.entries [] [] [] [] goes_on m (rw (take-append_seam t.book t.entries) t.answers) none);
  passed = t.turned.passed;
  noted = t.turned.noted;
  rings = rw (length_placed (length t.book) t.entries) t.turned.rings;
}

-- the request was denied
pub replied_denial : (s : Serving) (q : Request) (d : Denial) (text : List ℕ) (p : PassView Entry) (marks : List ℕ) (bell : Ringing)
    → p.held ≡ false → Means s q (denied d) → text ≡ reply_text q.close (denial_reply d) → RepliedBy s q text p p marks marks bell bell
replied_denial s q d text p marks bell idle m e = record {
  new_marks = [];
  entries = [];
  says = rw (e, ← append-nil (reply_text q.close (denial_reply d))) (direct q d [] [] [] [] goes_on m none);
  passed = (idled_none p marks bell idle).passed;
  noted = sym (append-nil marks);
  rings = refl;
}

-- the text of a reply that denies it
pub text_of_denial : (text : List ℕ) (close : Bool) (reply : Reply) (d e : Denial) → text ≡ reply_text close reply → reply ≡ denial_reply e → e ≡ d → text ≡ reply_text close (denial_reply d)
text_of_denial text close reply d e t r same = t ∙ ap (reply_text close) (r ∙ ap denial_reply same)

-- there was no memory for it
pub not_replied_idle : (s : Serving) (q : Request) (p : PassView Entry) (marks : List ℕ) (bell : Ringing) → p.held ≡ false → NotReplied s no.Memory q p p marks marks bell bell
not_replied_idle s q p marks bell idle = inl (idled_none p marks bell idle)

-- it was wanted, and no turn answered it
pub not_replied : (s : Serving) (n : NoReply) (q : Request) (wish : Wish) (p r : PassView Entry) (marks more : List ℕ) (bell rung : Ringing)
    → Means s q (wanted wish) → TookNone n q.target wish p r marks more bell rung → NotReplied s n q p r marks more bell rung
not_replied s no.Worn q wish p r marks more bell rung m (i, l) = (wish, m, i, l)
not_replied s no.Memory q wish p r marks more bell rung m (inl i) = inl i
not_replied s no.Memory q wish p r marks more bell rung m (inr v) = inr (wish, m, v)

-- a turn answered it, and there was no memory for the bytes of the reply
pub not_replied_turn : (s : Serving) (q : Request) (wish : Wish) (reply : Reply) (p r : PassView Entry) (marks more : List ℕ) (bell rung : Ringing)
    → Means s q (wanted wish) → TookTurn q.target wish reply p r marks more bell rung → NotReplied s no.Memory q p r marks more bell rung
not_replied_turn s q wish reply p r marks more bell rung m t = inr (wish, m, record { book = t.book; entries = t.entries; turned = t.turned; added = inr (reply, t.answers) })
