-- Words, bytes, a message of two parts and its parts, a chunk and a parent have one value each.
use Rattle.std.proofs.Common.{◌≡◌, ℕ, ◌-◌, List, ◌++◌, length, take, drop}
use Rattle.basis.proofs.OneAnswer.{told}
use Rattle.hash_chunks.specs.Chunks.{words_of, bytes_of_words, chunk_of, parent_of}

pub words_one_answer : (n : ℕ) (s : List ℕ) {r t : List ℕ} → r ≡ words_of n s → t ≡ words_of n s → r ≡ t
words_one_answer n s p q = told p q

pub bytes_one_answer : (w : List ℕ) {r s : List ℕ} → r ≡ bytes_of_words w → s ≡ bytes_of_words w → r ≡ s
bytes_one_answer w p q = told p q

pub new_one_answer : (head body : List ℕ) {r s : List ℕ} → r ≡ head ++ body → s ≡ head ++ body → r ≡ s
new_one_answer head body p q = told p q

pub len_one_answer : (m : List ℕ) {r s : ℕ} → r ≡ length m → s ≡ length m → r ≡ s
len_one_answer m p q = told p q

pub part_one_answer : (m : List ℕ) (from to : ℕ) {r s : List ℕ} → r ≡ take (to - from) (drop from m) → s ≡ take (to - from) (drop from m) → r ≡ s
part_one_answer m from to p q = told p q

pub chunk_one_answer : (key m : List ℕ) (counter root : ℕ) {r s : List ℕ} → r ≡ chunk_of key m counter root → s ≡ chunk_of key m counter root
    → r ≡ s
chunk_one_answer key m counter root p q = told p q

pub parent_one_answer : (key left right : List ℕ) (root : ℕ) {r s : List ℕ} → r ≡ parent_of key left right root
    → s ≡ parent_of key left right root → r ≡ s
parent_one_answer key left right root p q = told p q
