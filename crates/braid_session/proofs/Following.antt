-- Answers that follow answers.
use Rattle.std.proofs.Common.{◌≡◌, ℕ, Bool, List, ◌++◌, append_assoc}
use Rattle.braid_store.specs.declared.entry.Entry.{Entry}
use Rattle.braid_http.specs.declared.request.Request.{Request}
use Rattle.braid_http.specs.Replies.{reply_text}
use Rattle.braid_session.specs.declared.serving.Serving.{Serving}
use Rattle.braid_session.specs.Answers.{denial_reply}
use Rattle.braid_session.specs.Sessions.{Placed, placed_at, Course, goes_on, watched, Says, none, direct, turn, watches}

pub says_both : (s : Serving) (by : ℕ) (book : List Entry) (qs rs : List Request) (ms ns : List ℕ) (es fs : List Placed) (t u : List ℕ) (c course : Course)
    → c ≡ goes_on → Says s by book qs ms es t c → Says s by book rs ns fs u course → Says s by book (qs ++ rs) (ms ++ ns) (es ++ fs) (t ++ u) course
says_both s by book _ rs _ ns _ fs _ u _ course e none y = y
says_both s by book _ rs _ ns _ fs _ u _ course e (direct q d qs ms es t c m x) y =
    rw (append_assoc (reply_text q.close (denial_reply d)) t u)
    (direct q d (qs ++ rs) (ms ++ ns) (es ++ fs) (t ++ u) course m (says_both s by book qs rs ms ns es fs t u c course e x y))
says_both s by book _ rs _ ns _ fs _ u _ course e (turn q wish n reply new qs ms es t c m a x) y =
    rw (append_assoc (reply_text q.close reply) t u, append_assoc (placed_at n new) es fs)
    (turn q wish n reply new (qs ++ rs) (ms ++ ns) (es ++ fs) (t ++ u) course m a (says_both s by book qs rs ms ns es fs t u c course e x y))
says_both s by book _ rs _ ns _ fs _ u _ course e (watches q from n marks stopped m held) y = absurd (other stopped e)
  where
    other : (b : Bool) → watched b ≡ goes_on → ⊥
    other b e = cc
