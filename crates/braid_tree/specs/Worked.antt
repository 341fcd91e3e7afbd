-- Four runs, as three agents type them: `x` puts `ab`, `p` and `q` put `P` and `Q` behind its `a` at one time, and then `r`
-- puts `R` behind the `Q`.
use Rattle.std.specs.Prelude.{ℕ, List, [], ◌∷◌, ◌++◌, codes, map}
use Rattle.braid_tree.specs.Keys.{Key, key_cmp, key_in}
use Rattle.braid_tree.specs.Nodes.{Node, run, with_nodes}

abbrev pub x_run : List (Node Key)
x_run = run (key_in 1 (codes "x-1")) [] 0 (codes "ab")

abbrev pub path_of_a : List Key
path_of_a = key_in 1 (codes "x-1") 0 ∷ []

abbrev pub p_run : List (Node Key)
p_run = run (key_in 2 (codes "p-1")) path_of_a 0 (codes "P")

abbrev pub q_run : List (Node Key)
q_run = run (key_in 2 (codes "q-1")) path_of_a 0 (codes "Q")

abbrev pub r_run : List (Node Key)
r_run = run (key_in 3 (codes "r-1")) (path_of_a ++ key_in 2 (codes "q-1") 0 ∷ []) 0 (codes "R")

-- the characters of the nodes of runs that are put in order one after the other
abbrev pub text_of_runs : List (Node Key) → List (Node Key) → List (Node Key) → List (Node Key) → List ℕ
text_of_runs first second third fourth =
    map (λ (x : Node Key). x.char)
    (with_nodes key_cmp fourth (with_nodes key_cmp third (with_nodes key_cmp second (with_nodes key_cmp first []))))
