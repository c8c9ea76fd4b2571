mod AllowedLemmas
