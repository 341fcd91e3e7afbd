-- What the first turn of a subscription leads to: it is opened, or answered as any other request, or there is no reply.
use Rattle.std.proofs.Common.{◌≡◌, ℕ, Bool, true, false, inl, inr, List, [], refl, ap, sym, subst, ◌∙◌, append-nil}
use Rattle.braid_io.specs.Bells.{Ringing}
use Rattle.braid_io.specs.Outside.{Outflow, WritesAll, WritesPart}
use Rattle.braid_hall.specs.Passes.{PassView}
use Rattle.braid_store.specs.declared.entry.Entry.{Entry}
use Rattle.braid_http.specs.declared.request.Request.{Request}
use Rattle.braid_http.specs.declared.reply.Reply.{Reply}
use Rattle.braid_http.specs.declared.reply.Reply.TheVariants.{Subscription}
use Rattle.braid_http.specs.Replies.{reply_text}
use Rattle.braid_session.specs.declared.serving.Serving.{Serving}
use Rattle.braid_session.specs.declared.session.SessionEnd.{SessionEnd}
use Rattle.braid_session.specs.declared.session.SessionEnd.TheVariants.{WriteFault}
use Rattle.braid_session.specs.declared.turn.NoReply.{NoReply}
use Rattle.braid_session.specs.declared.turn.NoReply.TheVariants as no
use Rattle.braid_session.specs.declared.watch.Begun.{Begun}
use Rattle.braid_session.specs.declared.watch.Opening.{Opening}
use Rattle.braid_session.specs.declared.watch.First.{First}
use Rattle.braid_session.specs.declared.watch.First.TheVariants.{Begins, Unheld}
use Rattle.braid_session.specs.declared.wish.Wish.TheVariants.{Watch}
use Rattle.braid_session.specs.Wishes.{Means, wanted}
use Rattle.braid_session.specs.Answers.{not_held, unheld_reply}
use Rattle.braid_session.specs.Steps.{Idled, Turned, RepliedBy, NotReplied, EndsIn}
use Rattle.braid_session.specs.WatchSteps.{Looked, Stayed, TookFirst, TookNothing, BegunBy, WatchesOn}
use Rattle.braid_session.proofs.Replying.{replied_turn}
use Rattle.braid_session.proofs.Watching.{opened_so, head_failed}

turned_none : (book : List Entry) (p r : PassView Entry) (marks more : List ℕ) (bell : Ringing) → Looked book p r marks more → Turned book [] p r marks more bell bell
turned_none book p r marks more bell l = record { passed = l.passed; seen = l.seen ∙ sym (append-nil book); noted = l.noted; rings = refl }

idled_of : (p r : PassView Entry) (marks more : List ℕ) (bell : Ringing) → Stayed p r marks more → Idled p r marks more bell bell
idled_of p r marks more bell y = record { passed = y.passed; seen = y.seen; noted = y.noted; rings = refl }

-- it is served
pub gives_opening : (s : Serving) (q : Request) (from : List (List ℕ)) (begun : Begun) (head : List ℕ) (p r : PassView Entry) (marks more : List ℕ)
    → Means s q (wanted (Watch from)) → TookFirst q.target from (Begins begun) p r marks more → head ≡ reply_text false (Subscription begun.current)
    → BegunBy s q (record { head = head; updates = begun.updates; cursor = begun.cursor }) p r marks more
gives_opening s q from begun head p r marks more m t e = record {
  from = from;
  means = m;
  book = t.book;
  looked = t.looked;
  head = e ∙ ap (λ (c : List (List ℕ)). reply_text false (Subscription c)) t.finds.current;
  stands = t.finds.stands;
}

-- the path does not hold what it begins at
pub replied_unheld : (s : Serving) (q : Request) (from : List (List ℕ)) (id text : List ℕ) (p r : PassView Entry) (marks more : List ℕ) (bell : Ringing)
    → Means s q (wanted (Watch from)) → TookFirst q.target from (Unheld id) p r marks more → text ≡ reply_text q.close (unheld_reply id) → RepliedBy s q text p r marks more bell bell
replied_unheld s q from id text p r marks more bell m t e = replied_turn s q (Watch from) (unheld_reply id) text p r marks more bell bell m (record {
  book = t.book;
  entries = [];
  turned = turned_none t.book p r marks more bell t.looked;
  answers = not_held from id t.finds;
}) e

-- there was no memory for what the turn is answered with
pub not_opened : (s : Serving) (q : Request) (from : List (List ℕ)) (first : First) (p r : PassView Entry) (marks more : List ℕ) (bell : Ringing)
    → Means s q (wanted (Watch from)) → TookFirst q.target from first p r marks more → NotReplied s no.Memory q p r marks more bell bell
not_opened s q from first p r marks more bell m t =
    inr (Watch from, m, record { book = t.book; entries = []; turned = turned_none t.book p r marks more bell t.looked; added = inl refl })

-- or the turn gave nothing
pub not_taken : (s : Serving) (n : NoReply) (q : Request) (from : List (List ℕ)) (p r : PassView Entry) (marks more : List ℕ) (bell : Ringing)
    → Means s q (wanted (Watch from)) → TookNothing n p r marks more → NotReplied s n q p r marks more bell bell
not_taken s no.Worn q from p r marks more bell m (y, late) = (Watch from, m, idled_of p r marks more bell y, late)
not_taken s no.Memory q from p r marks more bell m (inl y) = inl (idled_of p r marks more bell y)
not_taken s no.Memory q from p r marks more bell m (inr (book, l)) =
    inr (Watch from, m, record { book = book; entries = []; turned = turned_none book p r marks more bell l; added = inl refl })

-- the text of the reply to it
pub text_of_unheld : (text : List ℕ) (close : Bool) (reply : Reply) (used id : List ℕ) → text ≡ reply_text close reply → reply ≡ unheld_reply used → used ≡ id
    → text ≡ reply_text close (unheld_reply id)
text_of_unheld text close reply used id t r same = t ∙ ap (reply_text close) (r ∙ ap unheld_reply same)

-- the head of a subscription was written in part
pub opened_in_part : (s : Serving) (q : Request) (opening : Opening) (p m : PassView Entry) (marks mid : List ℕ) (bell rung : Ringing) (bytes : List ℕ) (before after : Outflow)
    → BegunBy s q opening p m marks mid × (rung ≡ bell) → bytes ≡ opening.head → WritesPart bytes before after → EndsIn s WriteFault false q p m marks mid bell rung before after
opened_in_part s q opening p m marks mid bell rung bytes before after (b, e) h part =
    subst (λ (z : Ringing). EndsIn s WriteFault false q p m marks mid bell z before after) (sym e)
    (head_failed s q opening p m marks mid bell before after b (subst (λ (x : List ℕ). WritesPart x before after) h part))

-- it was written whole, and the subscription went on to its end
pub opened_whole : (s : Serving) (q : Request) (opening : Opening) (p m r : PassView Entry) (marks mid more : List ℕ) (bell between rung : Ringing) (bytes : List ℕ) (end : SessionEnd)
    (before middle after : Outflow) → BegunBy s q opening p m marks mid × (between ≡ bell) → bytes ≡ opening.head → WritesAll bytes before middle
    → WatchesOn end opening.cursor.path opening.cursor.from opening.updates m r mid more between rung middle after → EndsIn s end true q p r marks more bell rung before after
opened_whole s q opening p m r marks mid more bell between rung bytes end before middle after (b, e) h w watches =
    subst (λ (z : Ringing). EndsIn s end true q p r marks more z rung before after) e
    (opened_so s q opening p m r marks mid b end more between rung before middle after (subst (λ (x : List ℕ). WritesAll x before middle) h w) watches)
